use Rattle.std.proofs.Common.{◌++◌, ◌∙◌, List, append_assoc, ap₂, codes, refl, ℕ}
use Rattle.std.proofs.lemmas.List.{append-nil}
use Rattle.bpf_diff.specs.Values.{marked}
use Rattle.counted_io.proofs.Appending.{Writes-none, Writes-text}
use Rattle.bpfdb_jobs.proofs.Diffing.{told-ends}
use Rattle.bpfdb_jobs.proofs.diff.put_runs.Goals as goal

pub returns-clause-does : goal.returns-clause-does
returns-clause-does g c =
    let text = c.args.text.now in
    let told = c.put-told.ensures _ _ (Writes-none g.W.Write.contents c.args.streams.now.output _) in
    let half = c.put_marked-half.ensures _ _ told in
    let all = c.put_marked-all.ensures _ _ half in
    let written = Writes-text g.W.Write.contents _ _ _ _ _ (c.flush_after-written.ensures _ _ all)
    (append-nil _ ∙ append_assoc text _ _
    ∙ ap₂ (λ (p q : List ℕ). text ++ (marked (codes "< ") p ++ marked (codes "> ") q)) c.as_slice-first.ensures.value c.as_slice-second.ensures.value) in
    told-ends c.args.diff.now c.args.job.now _ _ _ _ _ c.requires refl written c.end_of.ensures.ok c.end_of.ensures.err
