-- What a line that was looked at is answered.
use Rattle.std.proofs.Common.{◌≡◌, ℕ, List, ◌++◌, Option, Some, Ok, Err, codes, refl, ap, ◌∙◌}
use Rattle.bpf_isa.specs.Programs.{Checked}
use Rattle.bpf_session.specs.Plain.{plain_end}
use Rattle.bpf_steps.specs.State.{State}
use Rattle.bpf_suite.proofs.Programs.{plain_end-program}
use Rattle.input_texts.specs.Cases.{read_case}
use Rattle.counted_io.specs.Counted.{Tally}
use Rattle.counted_io.specs.Writing.{Writes}
use Rattle.bpf_batch.specs.Answers.{AnswersLine, Refuses, RefusesLine, Runs, run_text, text_of_fault}
use Rattle.bpf_batch.specs.Batches.{Suits, WritesAnswer}
use Rattle.bpf_batch.specs.Begins.{Begins}
use Rattle.bpf_batch.specs.declared.batch.Batch.{Batch}
use Rattle.bpf_batch.specs.declared.fault.BatchFault.TheVariants.{Write}
use Rattle.bpf_batch.specs.declared.fault.Refusal.{Refusal}
use Rattle.bpf_batch.proofs.Writings.{with-fault, with-value}

-- a line that is refused has its text for an answer; one that runs has that of its end
refuses-line : (b : Batch) (line : List ℕ) (refusal : Refusal) → RefusesLine b (read_case line) refusal
    → AnswersLine b line (text_of_fault refusal ++ codes "\n")
refuses-line b line refusal r = Refuses refusal r refl

runs-line : (b : Batch) (line : List ℕ) (x y : State) → Begins b (read_case line) (Ok x) → y ≡ plain_end b.limit x → AnswersLine b line (run_text b.limit y)
runs-line b line x y r next =
    Runs r.0 r.1 r.2 r.3 (ap (run_text b.limit) (next ∙ ap (plain_end b.limit) r.4))

module _ {W : Type 0} (contents : W → Option (List ℕ)) (b : Batch) (line : List ℕ) (old new : Tally W) where
  pub refused-ok : {A B F : Type 0} (value : A) (other : B) (refusal : Refusal) → RefusesLine b (read_case line) refusal
      → Writes {E = F} contents old new (Ok value) (text_of_fault refusal ++ codes "\n") → WritesAnswer contents b line old new (Ok other)
  refused-ok value other refusal r w = (text_of_fault refusal ++ codes "\n", refuses-line b line refusal r, with-value contents old new value other _ w)

  pub refused-err : {A F : Type 0} (B : Type 0) (why : F) (refusal : Refusal) → RefusesLine b (read_case line) refusal
      → Writes {A = A} contents old new (Err why) (text_of_fault refusal ++ codes "\n") → WritesAnswer {A = B} contents b line old new (Err Write)
  refused-err B why refusal r w = (text_of_fault refusal ++ codes "\n", refuses-line b line refusal r, with-fault contents old new why Write _ w)

  pub ran-ok : {A B F : Type 0} (value : A) (other : B) (x y : State) → Begins b (read_case line) (Ok x) → y ≡ plain_end b.limit x
      → Writes {E = F} contents old new (Ok value) (run_text b.limit y) → WritesAnswer contents b line old new (Ok other)
  ran-ok value other x y r next w = (run_text b.limit y, runs-line b line x y r next, with-value contents old new value other _ w)

  pub ran-err : {A F : Type 0} (B : Type 0) (why : F) (x y : State) → Begins b (read_case line) (Ok x) → y ≡ plain_end b.limit x
      → Writes {A = A} contents old new (Err why) (run_text b.limit y) → WritesAnswer {A = B} contents b line old new (Err Write)
  ran-err B why x y r next w = (run_text b.limit y, runs-line b line x y r next, with-fault contents old new why Write _ w)

-- a machine that has run suits as before
pub suits-after : (b : Batch) (x y : State) → x.program.maps ≡ b.maps.now → y ≡ plain_end b.limit x → Suits b (Some y)
suits-after b x y suits next =
    ap (λ (p : Checked). p.maps) (ap (λ (s : State). s.program) next ∙ plain_end-program b.limit x) ∙ suits
