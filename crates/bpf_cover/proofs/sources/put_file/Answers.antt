use Rattle.std.proofs.Common.{◌++◌, ◌∙◌, ℕ, List, ap}
use Rattle.counted_io.proofs.Appending.{Writes-text}
use Rattle.bpf_cover.specs.Sources.{record_of}
use Rattle.bpf_cover.proofs.Grouping.{file-of}
use Rattle.bpf_cover.proofs.sources.put_file.Goals as goal

pub returns-in-len1-up : goal.returns-in-len1-up
returns-in-len1-up g c = λ first front known.
    let marks = c.args.marks.now in
    let spots = c.args.spots.now in
    Writes-text g.W.Write.contents _ _ _ _ _ (c.put_record.ensures first front known)
    (ap (λ (t : List ℕ). front ++ t)
    (ap (λ (file : List ℕ). record_of marks file spots) c.file_of.ensures ∙ file-of marks spots c.first-item.result c.in-len1-up.len_at_least c.first-item.is))
