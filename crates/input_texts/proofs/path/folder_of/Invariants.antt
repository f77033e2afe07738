use Rattle.std.proofs.Common.{◌≡◌, ◌≤◌, take, length}
use Rattle.input_texts.specs.Paths.{folder_of}
use Rattle.input_texts.proofs.path.folder_of.Given as goal

abbrev pub invariant-loop-end : goal.invariant-loop-end
invariant-loop-end l = (l.end ≤ length l.path) × (folder_of (take l.end l.path) ≡ folder_of l.path)

abbrev pub decreases-loop-end : goal.decreases-loop-end
decreases-loop-end l = l.end
