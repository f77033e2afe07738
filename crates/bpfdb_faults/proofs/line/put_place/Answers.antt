use Rattle.std.proofs.Common.{◌≡◌, ◌==◌, ℕ, false, arith}
use Rattle.bpfdb_faults.proofs.line.put_place.Goals as goal

-- it isn't the first one
not_first : (n : ℕ) → (n ≡ 0 → ⊥) → (n == 0) ≡ false
not_first n isnt = grind (arith, isnt)

pub returns : goal.returns
returns g c = λ first front known. rw (not_first c.args.before c.if-before-eq0.false) (rw c.saturating_add.ensures at (c.put_all.ensures first front known))
