use Rattle.std.proofs.Common.{length, flat_map, All}
use Rattle.bstr.proofs.lemmas.SpanLemmas.{IsWithin}
use Rattle.bstr.specs.Utf8.{pieces, spans_from}
use Rattle.bpfdb_script.proofs.Telling.{Telling}
use Rattle.bpf_suite.specs.Shown.{quoted_char}
use Rattle.bpf_suite.proofs.shown.put_quoted_chars.Given as goal

-- What is left of the characters lies in the text, and what was told of the others and the rest make up the whole.
abbrev pub invariant-chars : goal.invariant-chars
invariant-chars g l = record {
  within : All (IsWithin (length l.word)) l.chars;
  tells : Telling g.W.Write.contents l.fn.writer l.fn.so_far l.writer l.told (flat_map (quoted_char l.word) l.chars) (flat_map (quoted_char l.word) (spans_from 0 (pieces l.word)));
}

abbrev pub decreases-chars : goal.decreases-chars
decreases-chars g l = length l.chars
