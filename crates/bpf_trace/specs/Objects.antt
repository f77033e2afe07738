-- The rows of a trace as objects of JSON (RFC 8259), one a line. bpfdb's own choice.
use Rattle.std.specs.Prelude.{ℕ, ◌+◌, ◌==◌, if◌then◌else◌, List, [], ◌++◌, codes, decimal, drop}
use Rattle.std.specs.Option.{option_map_or}
use Rattle.answer_forms.specs.Objects.{places}
use Rattle.counted_io.specs.Writing.{hexadecimal}
use Rattle.bpf_entries.specs.declared.status.Status.{Status}
use Rattle.bpf_entries.specs.declared.status.Status.TheVariants.{Running, Exited, Faulted}
use Rattle.bpf_isa.specs.Programs.{Checked, insn_at}
use Rattle.bpf_isa.specs.declared.instruction.Insn.{Insn}
use Rattle.bpf_steps.specs.Entries.{step_entry}
use Rattle.bpf_steps.specs.Next.{next}
use Rattle.bpf_steps.specs.State.{State, register}
use Rattle.bpf_text.specs.Operands.{text_of_insn}
use Rattle.bpfdb_script.specs.Texts.{text_of_fault}
use Rattle.bpf_origin.specs.Writes.{written}
use Rattle.bpf_trace.specs.Branches.{is_branch}
use Rattle.bpf_trace.specs.Forms.{operands_in, parts_in}
use Rattle.bpf_trace.specs.declared.form.Form.TheVariants.{Json}
use Rattle.bpf_trace.specs.declared.strict_run.Unwritten.{Unwritten}

-- What is told of a slot, behind its semicolon and its blank, as members: where it stands in C.
abbrev pub place_members : List ℕ → List ℕ
place_members told = places (drop 2 told)

-- How the object of the step numbered k begins: at a slot, with an instruction; and its parts, with which it ends.
abbrev pub insn_text : Checked → ℕ → List ℕ
insn_text program slot = option_map_or (λ i. text_of_insn slot i) (insn_at program slot) []

abbrev pub step_lead : ℕ → ℕ → List ℕ → List ℕ
step_lead k slot insn =
    codes "{\"kind\":\"step\",\"step\":" ++ decimal k ++ codes ",\"slot\":" ++ decimal slot ++ codes ",\"insn\":\"" ++ insn ++ codes "\""

abbrev pub step_tail : List ℕ → List ℕ
step_tail parts = codes ",\"parts\":[" ++ parts ++ codes "]}\n"

-- That of a step from a state, with the members of where it stands and what it wrote.
unfoldable pub step_object : List ℕ → ℕ → State → List ℕ
step_object members k x =
    step_lead k x.pc (insn_text x.program x.pc) ++ members ++ step_tail (parts_in Json (next x) (written (next x) (step_entry x)))

-- That of a conditional jump: which way it went, where it stands, and what it compared; of another step none.
unfoldable pub way_member : State → List ℕ
way_member x = if (next x).pc == x.pc + 1 then codes ",\"way\":\"went on\"" else codes ",\"way\":\"jumped\""

abbrev pub branch_object_by : List ℕ → ℕ → State → Insn → List ℕ
branch_object_by members k x i =
    if is_branch i then step_lead k x.pc (insn_text x.program x.pc) ++ way_member x ++ members ++ step_tail (operands_in Json x i) else []

unfoldable pub branch_object : List ℕ → ℕ → State → List ℕ
branch_object members k x = option_map_or (branch_object_by members k x) (insn_at x.program x.pc) []

-- The member of a slot.
abbrev pub slot_member : ℕ → List ℕ
slot_member slot = codes ",\"slot\":" ++ decimal slot

-- That of where a run ended: what it answers, why it faulted, or that it took as many steps as it may.
abbrev pub exit_lead : ℕ → ℕ → List ℕ
exit_lead slot answer =
    codes "{\"kind\":\"exited\"" ++ slot_member slot ++ codes ",\"r0\":\"" ++ hexadecimal answer ++ codes "\""

abbrev pub end_lead : ℕ → Status → State → List ℕ
end_lead limit Running y = codes "{\"kind\":\"limit\",\"limit\":" ++ decimal limit ++ slot_member y.pc
end_lead limit Exited y = exit_lead y.pc (register y 0)
end_lead limit (Faulted fault) y = codes "{\"kind\":\"fault\",\"fault\":\"" ++ text_of_fault fault ++ codes "\"" ++ slot_member y.pc

unfoldable pub end_object : List ℕ → ℕ → State → List ℕ
end_object members limit y = end_lead limit y.status y ++ members ++ codes "}\n"

-- That of a read of the stack where nothing was written, with the members of where it stands, and of who called it.
abbrev pub unwritten_lead : Unwritten → List ℕ
unwritten_lead read = codes "{\"kind\":\"unwritten\",\"address\":\"" ++ hexadecimal read.address ++ codes "\"" ++ slot_member read.slot

unfoldable pub unwritten_object : List ℕ → List ℕ → Unwritten → List ℕ
unwritten_object members called read = unwritten_lead read ++ members ++ called ++ codes "}\n"
