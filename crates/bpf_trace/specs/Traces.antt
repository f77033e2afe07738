-- The lines of steps, and of where a run ended. bpfdb's own choice.
use Rattle.std.specs.Prelude.{ℕ, if◌then◌else◌, List, ◌++◌, decimal}
use lib.Chars.{codes}
use Rattle.bpf_entries.specs.Status.{has_ended}
use Rattle.bpf_steps.specs.Entries.{step_entry}
use Rattle.bpf_steps.specs.Next.{next}
use Rattle.bpf_steps.specs.State.{State}
use Rattle.bpf_origin.specs.Writes.{written}
use Rattle.bpfdb_script.specs.SlotTexts.{SlotTexts, text_of_slot}
use Rattle.bpfdb_script.specs.Texts.{place, text_at}
use Rattle.bpf_trace.specs.Forms.{parts_in}
use Rattle.bpf_trace.specs.declared.form.Form.TheVariants.{Text}

-- The line of the step numbered k from a state: its instruction, and what it wrote, whether the value changed or not. It ends with what is told of its slot.
unfoldable pub step_line : List ℕ → ℕ → State → List ℕ
step_line told k x =
    decimal k ++ codes " " ++ text_at x.program x.pc ++ parts_in Text (next x) (written (next x) (step_entry x)) ++ told ++ codes "\n"

-- That a run took as many steps as it may, and the slot where it stands.
unfoldable pub limit_text : ℕ → ℕ → List ℕ
limit_text limit slot = codes "step limit " ++ decimal limit ++ codes " reached at " ++ decimal slot

abbrev pub limit_line : ℕ → ℕ → List ℕ
limit_line limit slot = limit_text limit slot ++ codes "\n"

-- Where a run ended.
abbrev pub end_text : ℕ → State → List ℕ
end_text limit y = if has_ended y.status then place y else limit_text limit y.pc

abbrev pub end_line : ℕ → State → List ℕ
end_line limit y = end_text limit y ++ codes "\n"

-- The same with what is told of the slot there, and so of a machine that stands anywhere.
abbrev pub told_end_line : SlotTexts → ℕ → State → List ℕ
told_end_line places limit y = end_text limit y ++ text_of_slot places y.pc ++ codes "\n"

abbrev pub standing : SlotTexts → State → List ℕ
standing places x = place x ++ text_of_slot places x.pc
