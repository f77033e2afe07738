use Rattle.std.proofs.Common.{◌≡◌, ℕ, length}
use Rattle.std.specs.BTreeMap.{get}
use Rattle.std.specs.Ordering.{nat_cmp}
use Rattle.answer_forms.specs.Cuts.{pieces}
use Rattle.answer_forms.specs.Lines.{body, told_by}
use Rattle.answer_forms.specs.Tellers.{told_or}
use Rattle.answer_forms.proofs.tellers.tell.Given as goal

abbrev pub invariant-pieces : goal.invariant-pieces
invariant-pieces l =
    (p : ℕ) → told_or (told_by l.pieces) l.k (get nat_cmp l.tellers p) p ≡ told_or (told_by (pieces 59 (body l.line))) l.k (get nat_cmp l.fn.tellers p) p

abbrev pub decreases-pieces : goal.decreases-pieces
decreases-pieces l = length l.pieces
