use Rattle.std.proofs.Common.{◌≡◌, ◌≤◌, take, length}
use Rattle.counted_io.specs.Cuts.{trim_end}
use Rattle.counted_io.proofs.cuts.trim_end.Given as goal

abbrev pub invariant-loop-end : goal.invariant-loop-end
invariant-loop-end l = (l.end ≤ length l.text) × (trim_end (take l.end l.text) ≡ trim_end l.text)

abbrev pub decreases-loop-end : goal.decreases-loop-end
decreases-loop-end l = l.end
