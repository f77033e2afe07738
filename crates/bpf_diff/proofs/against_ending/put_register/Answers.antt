use Rattle.std.proofs.Common.{ℕ, ◌++◌, codes, ap}
use Rattle.counted_io.specs.Writing.{hexadecimal}
use Rattle.counted_io.proofs.Appending.{WritesAfter-WritesAfter}
use Rattle.bpf_diff.proofs.against_ending.put_register.Goals as goal

pub returns : goal.returns
returns g c =
    WritesAfter-WritesAfter g.W.Write.contents _ _ _ _ _ _ _ _ _ c.put-begun.ensures c.put_hexadecimal.ensures
    (ap (λ (n : ℕ). codes " " ++ hexadecimal n) c.number_in.ensures)
