use Rattle.std.proofs.Common.{◌≡◌, ◌<◌, ◌-◌, ℕ, drop, get_or, length}
use Rattle.input_texts.specs.Captures.{rest}
use Rattle.input_texts.proofs.capture.starts_in.Given as goal

abbrev pub invariant-loop-at : goal.invariant-loop-at
invariant-loop-at l = record {
  next : rest l.order (drop 24 l.file) (length l.starts.items) ≡ drop l.at l.file;
  each : (k : ℕ) → k < length l.starts.items → rest l.order (drop 24 l.file) k ≡ drop (get_or l.starts.items k 0) l.file;
}

abbrev pub decreases-loop-at : goal.decreases-loop-at
decreases-loop-at l = length l.file - l.at
