-- One slot more, and one row more.
use Rattle.std.proofs.Common.{ℕ, ◌≡◌, ◌<◌, Bool, true, false, List, [], ◌∷◌, ◌++◌, length, refl, arith, append_assoc}
use Rattle.counted_io.specs.Cuts.{after, before}
use Rattle.counted_io.specs.Lines.{lines}
use Rattle.counted_io.proofs.Cutting.{lines-cut}
use Rattle.bpf_lines.specs.PlaceSlots.{with_row, with_rows, with_slot}

-- the first slot
pub first_slot : (each : Bool) (slots slot : List ℕ) → length slots ≡ 0 → slots ++ slot ≡ with_slot each slots slot
first_slot each [] slot none = refl
first_slot each (b ∷ slots) slot none = absurd (omega (arith, none))

-- another one of a name
pub no_slot : (slots slot : List ℕ) → 0 < length slots → slots ≡ with_slot false slots slot
no_slot [] slot some = absurd (omega (arith, some))
no_slot (b ∷ slots) slot some = refl

-- and of a line
pub next_slot : (slots slot : List ℕ) → 0 < length slots → (slots ++ 44 ∷ []) ++ slot ≡ with_slot true slots slot
next_slot [] slot some = absurd (omega (arith, some))
next_slot (b ∷ slots) slot some = rw (append_assoc (b ∷ slots) (44 ∷ []) slot) refl

-- the row before the rest
pub one_row : (of_object : Bool) (what slots more rest row others : List ℕ) → 0 < length rest → row ≡ before 10 rest → others ≡ after 10 rest
    → more ≡ with_row of_object what slots row → with_rows of_object what more (lines others) ≡ with_rows of_object what slots (lines rest)
one_row of_object what slots more rest row others some is left pushed = rw (lines-cut rest some, pushed, is, left) refl
