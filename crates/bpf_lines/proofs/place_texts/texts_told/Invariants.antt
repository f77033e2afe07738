use Rattle.std.proofs.Common.{◌≡◌, [], length}
use Rattle.std.specs.Prelude.{map, replicate}
use Rattle.counted_io.specs.Lines.{lines}
use Rattle.bpf_lines.specs.PlaceTexts.{with_rows}
use Rattle.bpf_lines.proofs.place_texts.texts_told.Given as goal

abbrev pub invariant-loop-rest : goal.invariant-loop-rest
invariant-loop-rest l = with_rows l.kind (map (λ text. text.items) l.texts.items) (lines l.rest) ≡ with_rows l.kind (replicate l.count []) (lines l.table)

abbrev pub decreases-loop-rest : goal.decreases-loop-rest
decreases-loop-rest l = length l.rest
