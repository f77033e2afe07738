use Rattle.std.proofs.Common.{◌≡◌, ◌++◌, ℕ, List, append_assoc, codes, refl}
use Rattle.counted_io.proofs.Appending.{Writes-text}
use Rattle.counted_io.specs.Lines.{lines}
use Rattle.bpfdb_script.specs.Shown.{shown}
use Rattle.bpf_cover.specs.Tracefiles.{record_text, rows_text, totals_of}
use Rattle.bpf_cover.proofs.tracefile.put_record.Goals as goal

-- the parts of a record, one behind the other
in_record : (front begun name ended rows totals : List ℕ)
    → ((((front ++ begun) ++ name) ++ ended) ++ rows) ++ totals ≡ front ++ (begun ++ name ++ ended ++ rows ++ totals)
in_record front begun name ended rows totals = simp append_assoc refl

pub returns : goal.returns
unfolding record_text
returns g c = λ first front known.
    let begun = c.put-begun.ensures first front known in
    let named = c.put_shown-named.ensures first _ begun in
    let headed = c.put-headed.ensures first _ named in
    let told = c.put_rows-told.ensures first _ headed in
    Writes-text g.W.Write.contents _ _ _ _ _ (c.put_marked.ensures first _ told)
    (in_record front (codes "TN:\nSF:") (shown c.args.file.now) (codes "\n") (rows_text c.args.head c.args.marks.now (lines c.args.table.now))
    (totals_of c.args.marks.now))
