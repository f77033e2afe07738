use Rattle.std.proofs.Common.{◌≡◌, ◌++◌, ℕ, List, append_assoc, codes, refl, true}
use Rattle.std.specs.Prelude.{count_by, flat_map, length}
use Rattle.counted_io.proofs.Appending.{Writes-text}
use Rattle.bpfdb_script.specs.Shown.{shown}
use Rattle.bpf_cover.specs.Sources.{forks_of, group_text, groups, line_ran, taken_of}
use Rattle.bpf_cover.specs.Tracefiles.{totals_text}
use Rattle.bpf_cover.proofs.sources.put_record.Goals as goal

-- the parts of a record, one behind the other
in_record : (front begun name ended rows totals : List ℕ)
    → ((((front ++ begun) ++ name) ++ ended) ++ rows) ++ totals ≡ front ++ (begun ++ name ++ ended ++ rows ++ totals)
in_record front begun name ended rows totals = simp append_assoc refl

pub returns : goal.returns
returns g c = λ first front known.
    let marks = c.args.marks.now in
    let spots = c.args.spots.now in
    let begun = c.put-begun.ensures first front known in
    let named = c.put_shown-named.ensures first _ begun in
    let headed = c.put-headed.ensures first _ named in
    let told = c.put_groups-told.ensures first _ headed in
    let ended =
    rw (c.count_lines-lines.ensures.lines, c.count_lines-lines.ensures.ran, c.count_forks-branches.ensures.count, c.count_taken-taken.ensures) at
    (c.put_totals.ensures first _ told) in
    Writes-text g.W.Write.contents _ _ _ _ _ ended
    (in_record front (codes "TN:\nSF:") (shown c.args.file.now) (codes "\n") (flat_map (group_text marks) (groups true spots))
    (totals_text (length (groups true spots)) (count_by (line_ran marks) (groups true spots)) (forks_of marks spots) (taken_of marks spots)))
