use Rattle.std.proofs.Common.{◌∙◌, ap}
use Rattle.counted_io.proofs.Appending.{WritesAfter-text}
use Rattle.bpf_lines.specs.LineInfo.{line_entry}
use Rattle.bpf_lines.proofs.Texts.{line_is}
use Rattle.bpf_lines.proofs.rows.put_line.Goals as goal

pub returns-in-Some-Some : goal.returns-in-Some-Some
returns-in-Some-Some g c =
    rw (← c.told.view_is)
    (WritesAfter-text g.W.Write.contents _ _ _ _ _ _ c.put_entry.ensures
    (line_is _ _ _ _ c.in-Some-Some.block c.in-Some-Some.i c.line_entry-entry.result c.in-Some-Some.is-0 c.in-Some-Some.is-1
    (c.line_entry-entry.ensures ∙ ap (line_entry _) c.record_place.ensures.value)))
