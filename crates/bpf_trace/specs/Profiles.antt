-- How often each instruction of a program runs.
use Rattle.std.specs.Prelude.{ℕ, ◌+◌, ◌==◌, List, [], ◌∷◌, ◌++◌, count_by, decimal, length, map}
use lib.Chars.{codes}
use Rattle.std.specs.List.{range_with_len}
use Rattle.std.specs.Option.{option_map_or}
use Rattle.bpf_isa.specs.Programs.{Checked, insn_at}
use Rattle.bpf_steps.specs.State.{State}
use Rattle.bpf_session.specs.Plain.{plain_end}
use Rattle.bpfdb_script.specs.SlotTexts.{SlotTexts, text_of_slot}
use Rattle.bpfdb_script.specs.Texts.{text_at}
use Rattle.bpf_trace.specs.Runs.{steps_of}
use Rattle.bpf_trace.specs.Traces.{told_end_line}

-- How many of some steps are of the instruction at a slot.
abbrev pub times : List State → ℕ → ℕ
times xs slot = count_by (λ x. x.pc == slot) xs

-- The same of a run, slot by slot.
abbrev pub profile_of : ℕ → State → List ℕ
profile_of limit x = map (times (steps_of limit x)) (range_with_len 0 (length x.program.insns))

-- The line of the instruction that starts at a slot, none where none does. It ends with what is told of the slot.
unfoldable pub count_line : SlotTexts → Checked → ℕ → ℕ → List ℕ
count_line texts program slot count =
    option_map_or (λ i. decimal count ++ codes " " ++ text_at program slot ++ text_of_slot texts slot ++ codes "\n") (insn_at program slot) []

-- The lines of counts, from a slot on.
abbrev pub count_lines : SlotTexts → Checked → ℕ → List ℕ → List ℕ
count_lines texts program slot [] = []
count_lines texts program slot (count ∷ counts) = count_line texts program slot count ++ count_lines texts program (slot + 1) counts

-- The counts of a run that ended in this state: a line an instruction, and where it ended.
abbrev pub counts_text : SlotTexts → List ℕ → ℕ → State → List ℕ
counts_text texts counts limit y = count_lines texts y.program 0 counts ++ told_end_line texts limit y

-- The profile of a run.
abbrev pub profile_text : SlotTexts → ℕ → State → List ℕ
profile_text texts limit x = counts_text texts (profile_of limit x) limit (plain_end limit x)
