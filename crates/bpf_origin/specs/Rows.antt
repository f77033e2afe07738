-- The rows of an answer, and the text of each. bpfdb's own choice.
use Rattle.std.specs.Prelude.{ℕ, Bool, List, [], flat_map}
use Rattle.bpf_journal.specs.Histories.{Record}
use Rattle.bpf_machine.specs.Moves.{overwritten}
use Rattle.bpf_machine.specs.declared.moves.Move.{Move}
use Rattle.bpf_steps.specs.State.{State}
use Rattle.bpfdb_script.specs.SlotTexts.{SlotTexts}
use Rattle.bpf_origin.specs.declared.place.Part.{Part}
use Rattle.bpf_origin.specs.declared.question.Extent.{Extent}
use Rattle.bpf_origin.specs.declared.question.Extent.TheVariants.{Whole, Lines, Places}
use Rattle.bpf_origin.specs.Reads.{followed}
use Rattle.bpf_origin.specs.Texts.{left_line, line, lines_text, places_text}
use Rattle.bpf_origin.specs.Writes.{written}

-- What a row tells: a move, so many back, that led from x to y, with what it wrote and what it read; a part that is left in a state, at the opening or
-- before the kept history; or why the answer ends before its end.
pub data Row : Type 0 where
  Moved : (k : ℕ) → (x : State) → (m : Move) → (y : State) → (wrote read : List Part) → Row
  Left : (opening : Bool) → (x : State) → (p : Part) → Row
  Cut : (e : Extent) → Row

-- That of the move of a record, which led to y, by whether the registers that made addresses are told as read, too.
abbrev pub moved : Bool → ℕ → Record → State → Row
moved addresses k r y = Moved k r.before r.move y (written y (overwritten r.before r.move)) (followed addresses r.before r.move)

-- The text of a row, with what is told of slots.
abbrev pub cut_text : Extent → List ℕ
cut_text Whole = []
cut_text Lines = lines_text
cut_text Places = places_text

abbrev pub row_text : SlotTexts → Row → List ℕ
row_text places (Moved k x m y wrote read) = line places k x m y wrote read
row_text places (Left opening x p) = left_line opening x p
row_text places (Cut e) = cut_text e

abbrev pub text_of_rows : SlotTexts → List Row → List ℕ
text_of_rows places rows = flat_map (row_text places) rows
