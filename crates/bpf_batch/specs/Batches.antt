-- What a batch leaves in the writer and in the reader.
use Rattle.std.specs.Prelude.{ℕ, ◌≡◌, List, [], ◌∷◌, ◌++◌, Option, Some, None, Result, Ok, Err, ⊤}
use Rattle.bpf_session.specs.Runs.{Exchange, Wrote}
use Rattle.bpf_steps.specs.State.{State}
use Rattle.input_texts.specs.declared.case_line.ReadFault.{ReadFault}
use Rattle.input_texts.specs.declared.case_line.ReadFault.TheVariants as reading
use Rattle.counted_io.specs.Counted.{Tally, one_more}
use Rattle.counted_io.specs.Lines.{lines}
use Rattle.counted_io.specs.Writing.{Writes}
use Rattle.bpf_batch.specs.Answers.{AnswersLine, AnswersLines}
use Rattle.bpf_batch.specs.declared.batch.Batch.{Batch}
use Rattle.bpf_batch.specs.declared.fault.BatchFault.{BatchFault}
use Rattle.bpf_batch.specs.declared.fault.BatchFault.TheVariants.{Read, Write, Memory}

-- All lines were read, and the answers to them were written.
abbrev pub AnswersAll : Batch → Exchange → Type 0
AnswersAll b x = (text : List ℕ) × AnswersLines b (lines x.script) text × Wrote x text × (x.left ≡ Some [])

-- The first lines were answered. Where a write failed, a beginning of the answer to the next one was written, too.
abbrev pub StopsBy : BatchFault → Batch → List (List ℕ) → List ℕ → Exchange → Type 0
StopsBy Read b ahead text x = Wrote x text
StopsBy Memory b ahead text x = Wrote x text
StopsBy Write b ahead text x = (line : List ℕ) × (more : List (List ℕ)) × (ahead ≡ line ∷ more)
    × (one part rest : List ℕ) × AnswersLine b line one × (one ≡ part ++ rest) × Wrote x (text ++ part)

abbrev pub BreaksOff : BatchFault → Batch → Exchange → Type 0
BreaksOff why b x = (done ahead : List (List ℕ)) × (lines x.script ≡ done ++ ahead)
    × (text : List ℕ) × AnswersLines b done text × StopsBy why b ahead text x

-- Which failures a fault of a batch answers: want of memory none.
abbrev pub FailsBy : {R W : Type 0} → BatchFault → Tally R → Tally R → Tally W → Tally W → Type 0
FailsBy Read reader reader' writer writer' = (reader'.failures ≡ one_more reader.failures) × (writer'.failures ≡ writer.failures)
FailsBy Write reader reader' writer writer' = (reader'.failures ≡ reader.failures) × (writer'.failures ≡ one_more writer.failures)
FailsBy Memory reader reader' writer writer' = (reader'.failures ≡ reader.failures) × (writer'.failures ≡ writer.failures)

-- Scaffolding: no public contract cites what follows. The machine of the case before has the maps of the batch; and what was written of one line.
abbrev pub Suits : Batch → Option State → Type 0
Suits b None = ⊤
Suits b (Some x) = x.program.maps ≡ b.maps.now

abbrev pub WritesAnswer : {W A : Type 0} → (W → Option (List ℕ)) → Batch → List ℕ → Tally W → Tally W → Result A BatchFault → Type 0
WritesAnswer {A = A} contents b line old new (Ok value) =
    (one : List ℕ) × AnswersLine b line one × Writes {A = A} {E = BatchFault} contents old new (Ok value) one
WritesAnswer {A = A} contents b line old new (Err Write) =
    (one : List ℕ) × AnswersLine b line one × Writes {A = A} {E = BatchFault} contents old new (Err Write) one
WritesAnswer contents b line old new (Err Memory) = new ≡ old
WritesAnswer contents b line old new (Err Read) = ⊥

abbrev pub CountsAnswer : {W A : Type 0} → Result A BatchFault → Tally W → Tally W → Type 0
CountsAnswer (Ok value) old new = new.failures ≡ old.failures
CountsAnswer (Err Write) old new = new.failures ≡ one_more old.failures
CountsAnswer (Err Memory) old new = new.failures ≡ old.failures
CountsAnswer (Err Read) old new = ⊥

-- The fault of a batch whose line wasn't read.
abbrev pub fault_of : ReadFault → BatchFault
fault_of reading.Read = Read
fault_of reading.Memory = Memory
