-- What a batch answers to a line: the case that it is runs as `run` runs a program, and its answer is what `run` tells of that.
use Rattle.std.specs.Prelude.{ℕ, ◌≡◌, ◌≤◌, Bool, true, false, if◌then◌else◌, List, [], ◌∷◌, ◌++◌, codes, length, None, Result, Ok, Err}
use Rattle.bpf_isa.specs.Checker.{IsRefused}
use Rattle.bpf_isa.specs.Programs.{Checked, IsProgram}
use Rattle.bpf_isa.specs.declared.fault.LoadFault.{LoadFault}
use Rattle.bpf_isa.specs.declared.fault.LoadFault.TheVariants as load
use Rattle.bpf_entries.specs.declared.status.Status.{Status}
use Rattle.bpf_entries.specs.declared.status.Status.TheVariants as status
use Rattle.bpf_steps.specs.Opening.{Refused}
use Rattle.bpf_steps.specs.Platform.{context_limit}
use Rattle.bpf_steps.specs.State.{State, initial, register}
use Rattle.bpf_steps.specs.declared.fault.OpenFault.TheVariants as unopened
use Rattle.bpf_session.specs.Plain.{plain_end}
use Rattle.bpf_suite.specs.Refusals.{refusal_text, text_of_refusal}
use Rattle.bpf_suite.specs.declared.refusal.Refusal.TheVariants as program
use Rattle.bpf_trace.specs.Traces.{limit_line}
use Rattle.bpfdb_script.specs.Texts.{place}
use Rattle.input_texts.specs.Cases.{CaseValue, case_fault, read_case}
use Rattle.input_texts.specs.declared.case_fault.CaseFault.{CaseFault}
use Rattle.counted_io.specs.Writing.{hexadecimal}
use Rattle.bpf_batch.specs.declared.batch.Batch.{Batch}
use Rattle.bpf_batch.specs.declared.fault.Refusal.{Refusal}
use Rattle.bpf_batch.specs.declared.fault.Refusal.TheVariants.{Line, Load, Open}

-- The words of a case: its own, or those of the program that cases share.
abbrev pub words_of : Batch → CaseValue → List ℕ
words_of b c = if c.is_shared then b.program.now else c.words

-- The program of a case: the checker accepted its words with the maps of the batch.
pub record IsProgramOf (b : Batch) (c : CaseValue) (code : Checked) : Type 0 where
  pub maps : code.maps ≡ b.maps.now
  pub words : code.bytes ≡ words_of b c
  pub accepted : IsProgram code

-- A machine can be opened on it with the case's context.
pub record Opens (b : Batch) (c : CaseValue) (code : Checked) : Type 0 where
  pub program : IsProgramOf b c code
  pub short : length c.context ≤ context_limit

-- Why a case isn't run: its line is none, its words are refused, or its context is too long. Each comes where those before don't, and want of
-- memory is no answer.
abbrev pub is_memory : Refusal → Bool
is_memory (Load load.Memory) = true
is_memory (Open unopened.OutOfMemory) = true
is_memory _ = false

abbrev pub RefusesCase : Batch → CaseValue → Refusal → Type 0
RefusesCase b c (Line fault) = ⊥
RefusesCase b c (Load fault) = IsRefused (words_of b c) b.maps.now fault
RefusesCase b c (Open fault) = (code : Checked) × IsProgramOf b c code × Refused c.context fault

abbrev pub RefusesLine : Batch → Result CaseValue CaseFault → Refusal → Type 0
RefusesLine b (Err fault) refusal = refusal ≡ Line fault
RefusesLine b (Ok c) refusal = RefusesCase b c refusal × (is_memory refusal ≡ false)

-- The text of that, and of where a run ended: r0 of a program that has exited, its fault, or the limit.
abbrev pub text_of_fault : Refusal → List ℕ
text_of_fault (Line fault) = text_of_refusal (codes "refused B") (case_fault fault).0 [] None (case_fault fault).1
text_of_fault (Load fault) = refusal_text (program.Load fault)
text_of_fault (Open fault) = refusal_text (program.Open fault)

abbrev pub end_text : Status → ℕ → State → List ℕ
end_text status.Exited limit y = hexadecimal (register y 0) ++ codes "\n"
end_text (status.Faulted fault) limit y = place y ++ codes "\n"
end_text status.Running limit y = limit_line limit y.pc

abbrev pub run_text : ℕ → State → List ℕ
run_text limit y = end_text y.status limit y

-- The answer to a line.
pub data AnswersLine (b : Batch) (line text : List ℕ) : Type 0 where
  Refuses : (refusal : Refusal) → RefusesLine b (read_case line) refusal → text ≡ text_of_fault refusal ++ codes "\n" → AnswersLine b line text
  Runs : (c : CaseValue) → (code : Checked) → read_case line ≡ Ok c → Opens b c code
      → text ≡ run_text b.limit (plain_end b.limit (initial code c.context)) → AnswersLine b line text

-- Those to lines, one after another: each is for itself.
abbrev pub AnswersLines : Batch → List (List ℕ) → List ℕ → Type 0
AnswersLines b [] text = text ≡ []
AnswersLines b (line ∷ lines) text = (one more : List ℕ) × AnswersLine b line one × AnswersLines b lines more × (text ≡ one ++ more)
