use Rattle.std.proofs.Common.{◌≡◌, ◌<◌, ◌≤◌, ℕ, get_or, length}
use Rattle.bpf_diff.specs.Writers.{no_step}
use Rattle.bpf_diff.proofs.Noting.{handed_to}
use Rattle.bpf_diff.proofs.told_writers.inherit.Given as goal

abbrev pub invariant-loop-k : goal.invariant-loop-k
invariant-loop-k l = record {
  full : length l.notes ≡ 80;
  low : 6 ≤ l.k;
  each : (i : ℕ) → i < 80 → get_or l.notes i no_step ≡ handed_to l.depth l.k l.fn.notes i;
}
