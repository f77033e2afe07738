use Rattle.std.proofs.Common.{length, flat_map, All}
use Rattle.bstr.proofs.lemmas.SpanLemmas.{IsWithin}
use Rattle.bstr.specs.Utf8.{pieces, spans_from}
use Rattle.bpfdb_script.proofs.Telling.{Telling}
use Rattle.bpfdb_script.specs.Shown.{shown_span}
use Rattle.bpfdb_script.proofs.shown.put_chars.Given as goal

-- What is left of the characters lies in the text, and what was told of the others and the rest make up the whole.
abbrev pub invariant-chars : goal.invariant-chars
invariant-chars g l = record {
  within : All (IsWithin (length l.text)) l.chars;
  tells : Telling g.W.Write.contents l.fn.writer l.fn.so_far l.writer l.told (flat_map (shown_span l.lines l.text) l.chars) (flat_map (shown_span l.lines l.text) (spans_from 0 (pieces l.text)));
}

abbrev pub decreases-chars : goal.decreases-chars
decreases-chars g l = length l.chars
