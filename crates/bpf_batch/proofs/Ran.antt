-- What is written of a run, by how it ended.
use Rattle.std.proofs.Common.{◌≡◌, ℕ, List, ◌++◌, Option, Result, Ok, Err, codes, refl, sym, ap, subst, ◌∙◌}
use Rattle.bpf_entries.specs.declared.status.Status.{Status}
use Rattle.bpf_entries.specs.declared.status.Status.TheVariants as status
use Rattle.bpf_session.specs.Plain.{RunsPlain, ending_of, text_of_ending}
use Rattle.bpf_session.specs.declared.fault.RunFault.{RunFault}
use Rattle.bpf_session.specs.declared.plain.Ending.TheVariants.{Exited, Faulted, Limit}
use Rattle.bpf_steps.specs.State.{State}
use Rattle.bpf_trace.specs.Traces.{limit_line}
use Rattle.bpfdb_script.specs.Texts.{place}
use Rattle.counted_io.specs.Counted.{Tally}
use Rattle.counted_io.specs.Writing.{Writes}
use Rattle.counted_io.proofs.Appending.{Writes-text}
use Rattle.bpf_batch.specs.Answers.{end_text, run_text}
use Rattle.bpf_batch.proofs.Writings.{with-fault, with-value}

module _ {W : Type 0} (contents : W → Option (List ℕ)) (limit : ℕ) (x y : State) (old new : Tally W) where
  -- the text of an end is that of its status
  text-is : (s : Status) → y.status ≡ s → end_text s limit y ≡ run_text limit y
  text-is s e = ap (λ (t : Status). end_text t limit y) (sym e)

  plain-is : (s : Status) → y.status ≡ s → text_of_ending (ending_of y.status) y ≡ text_of_ending (ending_of s) y
  plain-is s e = ap (λ (t : Status). text_of_ending (ending_of t) y) e

  -- it has exited, and r0 was written
  pub ran-exited : {B F : Type 0} (value : B) → RunsPlain contents limit x y old new (Ok Exited) → Writes {E = F} contents old new (Ok value) (run_text limit y)
  ran-exited {B = B} {F = F} value r = go y.status refl where
    go : (s : Status) → y.status ≡ s → Writes {E = F} contents old new (Ok value) (run_text limit y)
    go status.Exited e =
        Writes-text contents old new _ _ _ (with-value contents old new Exited value _ r.written) (plain-is status.Exited e ∙ text-is status.Exited e)
    go status.Running e = let s : Exited ≡ Limit = r.ok ∙ ap ending_of e in absurd cc
    go (status.Faulted fault) e = let s : Exited ≡ Faulted = r.ok ∙ ap ending_of e in absurd cc

  -- it has, and that couldn't be written
  pub ran-unwritten : {B F : Type 0} (why : RunFault) (fault : F) → RunsPlain contents limit x y old new (Err why)
      → Writes {A = B} contents old new (Err fault) (run_text limit y)
  ran-unwritten {B = B} why fault r = go y.status refl where
    go : (s : Status) → y.status ≡ s → Writes {A = B} contents old new (Err fault) (run_text limit y)
    go status.Exited e =
        Writes-text contents old new _ _ _ (with-fault contents old new why fault _ r.written) (plain-is status.Exited e ∙ text-is status.Exited e)
    go status.Running e = let q = r.quiet (λ is. let s : status.Running ≡ status.Exited = sym e ∙ is in absurd cc) in absurd cc
    go (status.Faulted f) e = let q = r.quiet (λ is. let s : status.Faulted f ≡ status.Exited = sym e ∙ is in absurd cc) in absurd cc

  -- it has faulted, or reached the limit, and nothing was written before that was told
  pub ran-faulted : {B F : Type 0} (after : Tally W) (result : Result B F) → RunsPlain contents limit x y old new (Ok Faulted)
      → Writes contents new after result (place y ++ codes "\n") → Writes contents old after result (run_text limit y)
  ran-faulted {B = B} {F = F} after result r w = go y.status refl where
    go : (s : Status) → y.status ≡ s → Writes contents old after result (run_text limit y)
    go status.Exited e = let s : Faulted ≡ Exited = r.ok ∙ ap ending_of e in absurd cc
    go status.Running e = let s : Faulted ≡ Limit = r.ok ∙ ap ending_of e in absurd cc
    go (status.Faulted f) e =
        let q = r.quiet (λ is. let s : status.Faulted f ≡ status.Exited = sym e ∙ is in absurd cc) in
        Writes-text contents old after _ _ _ (subst (λ (t : Tally W). Writes contents t after result (place y ++ codes "\n")) q.1 w)
        (text-is (status.Faulted f) e)

  pub ran-limited : {B F : Type 0} (after : Tally W) (result : Result B F) → RunsPlain contents limit x y old new (Ok Limit)
      → Writes contents new after result (limit_line limit y.pc) → Writes contents old after result (run_text limit y)
  ran-limited {B = B} {F = F} after result r w = go y.status refl where
    go : (s : Status) → y.status ≡ s → Writes contents old after result (run_text limit y)
    go status.Exited e = let s : Limit ≡ Exited = r.ok ∙ ap ending_of e in absurd cc
    go (status.Faulted f) e = let s : Limit ≡ Faulted = r.ok ∙ ap ending_of e in absurd cc
    go status.Running e =
        let q = r.quiet (λ is. let s : status.Running ≡ status.Exited = sym e ∙ is in absurd cc) in
        Writes-text contents old after _ _ _ (subst (λ (t : Tally W). Writes contents t after result (limit_line limit y.pc)) q.1 w)
        (text-is status.Running e)
