use Rattle.std.proofs.Common.{◌≡◌, ◌++◌, ◌∙◌, ℕ, Bool, false, List, [], ap, arith, codes, length, nat_lt, sym}
use Rattle.std.proofs.lemmas.Bool.Decides.{nat_tests}
use Rattle.std.specs.Prelude.{drop, if◌then◌else◌}
use Rattle.answer_forms.specs.Objects.{places}
use Rattle.bpf_trace.specs.Objects.{place_members}
use Rattle.bpf_trace.specs.UnwrittenTexts.{called_by}
use Rattle.bpf_trace.proofs.words.called_members.Goals as goal

-- a text that is long enough
called : (told : List ℕ) → nat_lt (length told) 5 ≡ false → places (codes "called by " ++ drop 5 told) ≡ place_members (called_by told)
called told long = sym (ap (λ (b : Bool). place_members (if b then [] else codes "; called by " ++ drop 5 told)) long)

pub returns : goal.returns
returns c =
    let low = c.if-told-lt5.false in
    let long : nat_lt (length c.args.told.now) 5 ≡ false = grind (arith, nat_tests, low) in
    let text = c.as_slice.ensures.value ∙ rw c.split_at.ensures.back at c.in_ok-extend_from_slice.ensures.items ∙ ap (λ (t : List ℕ). t ++ drop 5 c.args.told.now) c.in_ok-called.ensures.items in
    rw (text, c.new-members.ensures.items) at c.in_ok-push_pieces.ensures ∙ called c.args.told.now long
