use Rattle.std.proofs.Common.{◌++◌, ◌∙◌, ℕ, List, ap, append_assoc}
use Rattle.std.specs.Prelude.{flat_map}
use Rattle.counted_io.proofs.Appending.{Writes-text}
use Rattle.bpf_cover.specs.Sources.{jump_text, line_ran}
use Rattle.bpf_cover.specs.Tracefiles.{line_text}
use Rattle.bpf_cover.proofs.Grouping.{group-of}
use Rattle.bpf_cover.proofs.sources.put_group.Goals as goal

pub returns-in-len1-up : goal.returns-in-len1-up
returns-in-len1-up g c = λ first front known.
    let marks = c.args.marks.now in
    let spots = c.args.spots.now in
    let spot = c.first-item.result in
    let told = rw c.line_ran-ran.ensures at (c.put_line-told.ensures first front known) in
    Writes-text g.W.Write.contents _ _ _ _ _ (c.put_jumps.ensures first _ told)
    (append_assoc front (line_text spot.line (line_ran marks spots)) (flat_map (jump_text marks) spots)
    ∙ ap (λ (t : List ℕ). front ++ t) (group-of marks spots spot c.in-len1-up.len_at_least c.first-item.is))
