-- The contexts of a plan: what their files hold, or packets of captures. bpfdb's own choice.
use Rattle.std.specs.Prelude.{ℕ, ◌≡◌, List, [], ◌++◌, codes, Option, Some, None}
use Rattle.bpfdb_cli.specs.declared.plans.Plan.{Plan}
use Rattle.bpfdb_faults.specs.Faults.{line_of}
use Rattle.bpfdb_faults.specs.declared.fault.JobFault.TheVariants as job
use Rattle.bpfdb_script.specs.Shown.{shown}
use Rattle.capture_packets.specs.Choices.{IsChosen, IsUnchosen}
use Rattle.capture_packets.specs.Faults.{fault_text}
use Rattle.capture_packets.specs.Notes.{note_text}
use Rattle.capture_packets.specs.declared.choice.Chosen.{Chosen}
use Rattle.capture_packets.specs.declared.fault.CaptureFault.{CaptureFault}
use Rattle.capture_packets.specs.declared.fault.CaptureFault.TheVariants.{Packet, Memory}
use Rattle.capture_packets.specs.declared.note.Note.{Note}
use Rattle.bpfdb.specs.Contents.{Contents}
use Rattle.bpfdb.specs.Jobs.{name_or_empty}
use Rattle.bpfdb.specs.declared.contexts.ContextFault.{ContextFault}
use Rattle.bpfdb.specs.declared.contexts.Contexts.{Contexts}

-- Of what its files hold they are what the plan asks for.
pub record AreContexts (plan : Plan) (of : Contents) (contexts : Contexts) : Type 0 where
  pub context : IsChosen plan.packet of.context contexts.context
  pub other : IsChosen plan.other_packet of.other contexts.other

abbrev pub with_contexts : Contents → Contexts → Contents
with_contexts of contexts = record of { context = contexts.context.bytes.now; other = contexts.other.bytes.now }

-- What is said of them.
abbrev pub note_line : List ℕ → Option Note → List ℕ
note_line option None = []
note_line option (Some note) = note_text option note

abbrev pub notes_of : Contexts → List ℕ
notes_of contexts = note_line (codes "--packet") contexts.context.note ++ note_line (codes "--other-packet") contexts.other.note

-- Why one of them isn't there, the first one before the other, and of which file.
pub data IsContextFault (plan : Plan) (of : Contents) (fault : ContextFault) : Type 0 where
  OfContext : IsUnchosen plan.packet of.context fault.why → fault.path.now ≡ name_or_empty plan.memory → IsContextFault plan of fault
  OfOther : (context : Chosen) → IsChosen plan.packet of.context context → IsUnchosen plan.other_packet of.other fault.why
      → fault.path.now ≡ name_or_empty plan.other → IsContextFault plan of fault

abbrev pub line_by : CaptureFault → List ℕ → List ℕ
line_by (Packet fault) path = fault_text fault ++ codes " (" ++ shown path ++ codes ")\n"
line_by Memory path = line_of job.Memory

abbrev pub context_line : ContextFault → List ℕ
context_line fault = line_by fault.why fault.path.now
