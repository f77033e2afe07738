-- Which slots a place has, by a table of `bpfdb lines`.
use Rattle.std.specs.Prelude.{ℕ, Bool, true, false, if◌then◌else◌, List, [], ◌∷◌, ◌++◌}
use Rattle.counted_io.specs.Cuts.{after, before}
use Rattle.counted_io.specs.Lines.{lines}
use Rattle.bpf_lines.specs.Places.{is_line}
use Rattle.bpf_lines.specs.TableRows.{tells}

-- One more slot behind some, with a comma (44) between: of a line each one counts, of a name the first one.
abbrev pub with_slot : Bool → List ℕ → List ℕ → List ℕ
with_slot each [] slot = slot
with_slot true (b ∷ slots) slot = (b ∷ slots) ++ 44 ∷ slot
with_slot false (b ∷ slots) slot = b ∷ slots

-- Those of the table of an object, or of a listing; the slot stands before the first blank (32) of its row.
abbrev pub with_row : Bool → List ℕ → List ℕ → List ℕ → List ℕ
with_row of_object what slots row =
    if tells of_object (after 32 row) what then with_slot (is_line what) slots (before 32 row) else slots

abbrev pub with_rows : Bool → List ℕ → List ℕ → List (List ℕ) → List ℕ
with_rows of_object what slots [] = slots
with_rows of_object what slots (row ∷ rows) = with_rows of_object what (with_row of_object what slots row) rows

-- As a text of numbers with commas between, which is empty where no row tells the place.
abbrev pub slots_told : Bool → List ℕ → List ℕ → List ℕ
slots_told of_object table what = with_rows of_object what [] (lines table)
