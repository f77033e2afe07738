use Rattle.std.proofs.Common.{◌++◌, ◌∙◌, ℕ, List, ap, append_assoc}
use Rattle.counted_io.proofs.Appending.{Writes-text}
use Rattle.bpf_cover.specs.Coverage.{has_run}
use Rattle.bpf_cover.specs.Tracefiles.{branches_text, line_text}
use Rattle.bpf_cover.proofs.Records.{placed}
use Rattle.bpf_cover.proofs.tracefile.put_place.Goals as goal

pub returns-in-Some-Some : goal.returns-in-Some-Some
returns-in-Some-Some g c = λ first front known.
    let line = c.in-Some-Some.line in
    let mark = c.in-Some-Some.mark in
    let told = rw c.has_run.ensures at (c.put_line-told.ensures first front known) in
    Writes-text g.W.Write.contents _ _ _ _ _ (c.put_branches.ensures first _ told)
    (append_assoc front (line_text line (has_run mark)) (branches_text line 0 mark)
    ∙ ap (λ (t : List ℕ). front ++ t) (placed c.args.line c.args.mark line mark c.in-Some-Some.is-0 c.in-Some-Some.is-1))
