-- The rows of a trace, and the text of each in a form: a line, or an object of JSON. bpfdb's own choice.
use Rattle.std.specs.Prelude.{ℕ, Bool, ◌+◌, ◌-◌, if◌then◌else◌, List, [], ◌∷◌, ◌++◌, codes, drop, flat_map, take}
use Rattle.std.specs.Str.{bytes_eq}
use Rattle.bpf_steps.specs.State.{State}
use Rattle.bpf_session.specs.Plain.{plain_end}
use Rattle.bpfdb_script.specs.SlotTexts.{text_of_slot}
use Rattle.bpf_trace.specs.Branches.{branch_line}
use Rattle.bpf_trace.specs.Objects.{branch_object, end_object, place_members, step_object, unwritten_object}
use Rattle.bpf_trace.specs.Runs.{steps_of}
use Rattle.bpf_trace.specs.Traces.{end_text, step_line}
use Rattle.bpf_trace.specs.UnwrittenTexts.{call_text, unwritten_text}
use Rattle.bpf_trace.specs.declared.form.Form.{Form}
use Rattle.bpf_trace.specs.declared.form.Form.TheVariants.{Text, Json}
use Rattle.bpf_trace.specs.declared.strict_run.Unwritten.{Unwritten}
use Rattle.bpf_trace.specs.declared.trace.Shown.{Shown}

-- What a row tells: the step numbered k from a state; the same if it is a conditional jump; a read of the stack where nothing was written; where a run
-- ended, or that it took as many steps as it may. With each stands what is told of its slot, and with a read what is told of the call, too.
pub data Row : Type 0 where
  Step : (told : List ℕ) → (k : ℕ) → (x : State) → Row
  Branch : (told : List ℕ) → (k : ℕ) → (x : State) → Row
  Unread : (told called : List ℕ) → (read : Unwritten) → Row
  End : (told : List ℕ) → (limit : ℕ) → (y : State) → Row

-- What is told of a slot, in a form; and the text of a row with that.
abbrev pub told_in : Form → List ℕ → List ℕ
told_in Text told = told
told_in Json told = place_members told

abbrev pub step_text : Form → List ℕ → ℕ → State → List ℕ
step_text Text told k x = step_line told k x
step_text Json members k x = step_object members k x

abbrev pub branch_text : Form → List ℕ → ℕ → State → List ℕ
branch_text Text told k x = branch_line told k x
branch_text Json members k x = branch_object members k x

abbrev pub unread_text : Form → List ℕ → List ℕ → Unwritten → List ℕ
unread_text Text told called read = unwritten_text read ++ told ++ called ++ codes "\n"
unread_text Json members called read = unwritten_object members called read

abbrev pub end_row : Form → List ℕ → ℕ → State → List ℕ
end_row Text told limit y = end_text limit y ++ told ++ codes "\n"
end_row Json members limit y = end_object members limit y

abbrev pub row_text : Form → Row → List ℕ
row_text form (Step told k x) = step_text form (told_in form told) k x
row_text form (Branch told k x) = branch_text form (told_in form told) k x
row_text form (Unread told called read) = unread_text form (told_in form told) (told_in form called) read
row_text form (End told limit y) = end_row form (told_in form told) limit y

-- What is told of the slot of a step that is shown: of a conditional jump what there is, and else nothing where the same is told of the slot of the step
-- before.
abbrev pub told_since : List ℕ → List ℕ → List ℕ
told_since before told = if bytes_eq before told then [] else told

abbrev pub told_of : Shown → List ℕ → List ℕ → List ℕ
told_of shown before told = if shown.only_branches then told else told_since before told

-- Its row, where conditional jumps alone are shown, or each step.
abbrev pub row_of : Bool → List ℕ → ℕ → State → Row
row_of only_branches told k x = if only_branches then Branch told k x else Step told k x

-- Those of steps, numbered from k on, behind what was told of the slot of the step before.
abbrev pub rows_from : Shown → List ℕ → ℕ → List State → List Row
rows_from shown before k [] = []
rows_from shown before k (x ∷ xs) =
    row_of shown.only_branches (told_of shown before (text_of_slot shown.places x.pc)) k x ∷ rows_from shown (text_of_slot shown.places x.pc) (k + 1) xs

-- Those of the steps of a run that are shown; and all of its trace: these, and where it ended, or the read before which it stopped.
abbrev pub shown_of : Shown → List State → List State
shown_of shown xs = take shown.count (drop (shown.from - 1) xs)

abbrev pub step_rows : ℕ → Shown → State → List Row
step_rows limit shown x = rows_from shown [] (shown.from - 1 + 1) (shown_of shown (steps_of limit x))

abbrev pub rows : ℕ → Shown → State → List Row
rows limit shown x = step_rows limit shown x ++ End (text_of_slot shown.places (plain_end limit x).pc) limit (plain_end limit x) ∷ []

abbrev pub rows_until : Unwritten → Shown → State → List Row
rows_until read shown x = step_rows read.steps shown x ++ Unread (text_of_slot shown.places read.slot) (call_text shown.places read.call) read ∷ []

-- The text of rows.
abbrev pub text_of_rows : Shown → List Row → List ℕ
text_of_rows shown rows = flat_map (row_text shown.form) rows

abbrev pub trace_text : ℕ → Shown → State → List ℕ
trace_text limit shown x = text_of_rows shown (rows limit shown x)

abbrev pub trace_until : Unwritten → Shown → State → List ℕ
trace_until read shown x = text_of_rows shown (rows_until read shown x)
