-- Scaffolding: no public contract cites this. A machine stands before the first step of the case that a line is, or the line is refused.
use Rattle.std.specs.Prelude.{◌≡◌, Result, Ok, Err, ⊤}
use Rattle.bpf_isa.specs.Programs.{Checked}
use Rattle.bpf_steps.specs.State.{State, initial}
use Rattle.input_texts.specs.Cases.{CaseValue}
use Rattle.input_texts.specs.declared.case_fault.CaseFault.{CaseFault}
use Rattle.bpf_batch.specs.Answers.{Opens, RefusesLine}
use Rattle.bpf_batch.specs.declared.batch.Batch.{Batch}
use Rattle.bpf_batch.specs.declared.fault.Refusal.{Refusal}

abbrev pub Begins : Batch → Result CaseValue CaseFault → Result State Refusal → Type 0
Begins b read (Ok x) = (c : CaseValue) × (code : Checked) × (read ≡ Ok c) × Opens b c code × (x ≡ initial code c.context)
Begins b read (Err refusal) = RefusesLine b read refusal

-- It has the maps of the batch.
abbrev pub SuitsMachine : Batch → Result State Refusal → Type 0
SuitsMachine b (Ok x) = x.program.maps ≡ b.maps.now
SuitsMachine b (Err refusal) = ⊤
