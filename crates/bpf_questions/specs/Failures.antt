-- Which failures a conversation that broke off counted.
use Rattle.std.specs.Prelude.{◌≡◌, Result, Ok, Err}
use Rattle.counted_io.specs.Counted.{Tally, one_more}
use Rattle.bpf_questions.specs.declared.fault.ConversationFault.{ConversationFault}
use Rattle.bpf_questions.specs.declared.fault.ConversationFault.TheVariants as fault

-- Which failures a fault answers: want of memory none.
abbrev pub FailsBy : {R W : Type 0} → ConversationFault → Tally R → Tally R → Tally W → Tally W → Type 0
FailsBy fault.Read reader reader' writer writer' = (reader'.failures ≡ one_more reader.failures) × (writer'.failures ≡ writer.failures)
FailsBy fault.Write reader reader' writer writer' = (reader'.failures ≡ reader.failures) × (writer'.failures ≡ one_more writer.failures)
FailsBy fault.Memory reader reader' writer writer' = (reader'.failures ≡ reader.failures) × (writer'.failures ≡ writer.failures)

-- Scaffolding: the same of what was written for one line.
abbrev pub Counts : {W A : Type 0} → Result A ConversationFault → Tally W → Tally W → Type 0
Counts (Ok value) old new = new.failures ≡ old.failures
Counts (Err fault.Write) old new = new.failures ≡ one_more old.failures
Counts (Err fault.Memory) old new = new.failures ≡ old.failures
Counts (Err fault.Read) old new = ⊥
