use Rattle.std.proofs.Common.{length, ◌-◌, ◌≡◌, take}
use Rattle.std.specs.Io.KnownBytes.{Appends}
use Rattle.counted_io.proofs.writing.write_text.Given as goal

abbrev pub invariant-loop-written : goal.invariant-loop-written
invariant-loop-written g l =
    Appends (g.W.Write.contents l.initial.writer.inner) (g.W.Write.contents l.writer.inner) (take l.written l.text)
    × (l.writer.failures ≡ l.initial.writer.failures)

abbrev pub decreases-loop-written : goal.decreases-loop-written
decreases-loop-written g l = length l.text - l.written
