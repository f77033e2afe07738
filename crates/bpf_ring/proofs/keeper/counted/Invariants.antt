use Rattle.std.proofs.Common.{◌≡◌, ◌≤◌, ◌-◌, List}
use Rattle.bpf_entries.specs.Keeping.{Kept}
use Rattle.bpf_entries.specs.Rings.{AllFit, ring}
use Rattle.bpf_ring.proofs.Walks.{Walked}
use Rattle.bpf_ring.proofs.keeper.counted.Given as goal

abbrev pub invariant-loop-place : goal.invariant-loop-place
invariant-loop-place l = record {
  within : l.place ≤ l.len;
  walked : (ks : List Kept) → AllFit ks → l.ring.bytes ≡ ring ks → Walked l.counts l.place ks;
}

abbrev pub decreases-loop-place : goal.decreases-loop-place
decreases-loop-place l = l.len - l.place
