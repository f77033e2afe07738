use Rattle.std.proofs.Common.{◌≡◌, ◌++◌, ℕ, Bool, false, List, [], ap, arith, codes, length, nat_lt, sym}
use Rattle.std.proofs.lemmas.Bool.Decides.{nat_tests}
use Rattle.std.specs.Prelude.{drop, if◌then◌else◌}
use Rattle.counted_io.proofs.Appending.{WritesAfter-WritesAfter}
use Rattle.bpf_trace.specs.UnwrittenTexts.{called_by}
use Rattle.bpf_trace.proofs.unwritten.put_called.Goals as goal

-- a text that is long enough
called : (told : List ℕ) → nat_lt (length told) 5 ≡ false → codes "; called by " ++ drop 5 told ≡ called_by told
called told long = sym (ap (λ (b : Bool). if b then [] else codes "; called by " ++ drop 5 told) long)

pub returns : goal.returns
returns g c =
    let low = c.if-told-lt5.false in
    let long : nat_lt (length c.args.told.now) 5 ≡ false = grind (arith, nat_tests, low) in
    WritesAfter-WritesAfter g.W.Write.contents _ _ _ _ _ _ _ _ _ c.put-begun.ensures (rw c.split_at.ensures.back at c.put-2.ensures) (called c.args.told.now long)
