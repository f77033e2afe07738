-- How many there are, and then a word each turn.
use Rattle.std.proofs.Common.{arith, refl}
use Rattle.counted_io.proofs.Appending.{WritesAfter-WritesAfter}
use Rattle.bpfdb_script.specs.Texts.{text_of_trace, word_text}
use Rattle.bpfdb_script.proofs.Telling.{Telling-start, Telling-step, Telling-end, pieces-next, pieces-end}
use Rattle.bpfdb_script.proofs.trace.put_trace.Goals as goal

pub loop-word-init : goal.loop-word-init
loop-word-init g c = Telling-step _ _ _ _ _ _ _ _ _ _ _ (Telling-start _ _ _ _) c.put_all-told.ensures refl

pub loop-word-preserved : goal.loop-word-preserved
loop-word-preserved g c = Telling-step _ _ _ _ _ _ _ _ _ _ _ c.loop-word.invariant c.put_all-told-in-loop-word.ensures (pieces-next word_text _ c.loop-word.word-index 0 (omega arith))

pub returns : goal.returns
unfolding text_of_trace
returns g c =
    rw c.trace-words.ensures.value at
    (WritesAfter-WritesAfter g.W.Write.contents _ _ _ _ _ _ _ _ _
    (Telling-end _ _ _ _ _ _ _ c.loop-word.invariant (pieces-end word_text _ c.loop-word.word-index (omega arith))) c.put.ensures refl)
