-- One row more of the texts of slots.
use Rattle.std.proofs.Common.{ℕ, ◌≡◌, ◌<◌, List, length, refl}
use Rattle.counted_io.specs.Cuts.{after, before}
use Rattle.counted_io.specs.Lines.{lines}
use Rattle.counted_io.proofs.Cutting.{lines-cut}
use Rattle.bpf_lines.specs.PlaceTexts.{with_row, with_rows}
use Rattle.bpf_lines.specs.declared.place_texts.SlotText.{SlotText}

-- the row before the rest
pub one_more : (kind : SlotText) (texts more : List (List ℕ)) (rest row others : List ℕ) → 0 < length rest → row ≡ before 10 rest → others ≡ after 10 rest
    → more ≡ with_row kind texts row → with_rows kind more (lines others) ≡ with_rows kind texts (lines rest)
one_more kind texts more rest row others some is left put = rw (lines-cut rest some, put, is, left) refl
