-- The line of a conditional jump. bpfdb's own choice.
use Rattle.std.specs.Prelude.{ℕ, Bool, true, false, ◌+◌, ◌==◌, if◌then◌else◌, List, [], ◌++◌, decimal}
use lib.Chars.{codes}
use Rattle.std.specs.Option.{option_map_or}
use Rattle.bpf_isa.specs.Programs.{insn_at}
use Rattle.bpf_isa.specs.declared.instruction.Insn.{Insn}
use Rattle.bpf_isa.specs.declared.instruction.Insn.TheVariants as insn
use Rattle.bpf_steps.specs.Next.{next}
use Rattle.bpf_steps.specs.State.{State}
use Rattle.bpfdb_script.specs.Texts.{text_at}
use Rattle.bpf_trace.specs.Forms.{operands_in}
use Rattle.bpf_trace.specs.declared.form.Form.TheVariants.{Text}

-- Whether an instruction is a conditional jump.
abbrev pub is_branch : Insn → Bool
is_branch (insn.JumpIf condition width dst source offset) = true
is_branch _ = false

-- Which way it went: it jumped, unless the instruction behind it is the next.
unfoldable pub way_text : State → List ℕ
way_text x = if (next x).pc == x.pc + 1 then codes "; went on" else codes "; jumped"

-- The line of the step numbered k from a state, if it is a conditional jump, and else nothing. It ends with what is told of its slot.
abbrev pub branch_by : List ℕ → ℕ → State → Insn → List ℕ
branch_by told k x i =
    if is_branch i then decimal k ++ codes " " ++ text_at x.program x.pc ++ operands_in Text x i ++ way_text x ++ told ++ codes "\n" else []

unfoldable pub branch_line : List ℕ → ℕ → State → List ℕ
branch_line told k x = option_map_or (branch_by told k x) (insn_at x.program x.pc) []
