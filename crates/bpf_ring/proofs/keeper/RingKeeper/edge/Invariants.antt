use Rattle.std.proofs.Common.{◌≤◌, ◌+◌, List, length}
use Rattle.bpf_entries.specs.Keeping.{Kept}
use Rattle.bpf_ring.proofs.Edges.{IsCut}
use Rattle.bpf_ring.specs.Edges.{IsRagged}
use Rattle.bpf_ring.proofs.keeper.RingKeeper.edge.Given as goal

abbrev pub invariant-loop-place : goal.invariant-loop-place
invariant-loop-place l = record {
  within : l.place + l.entries ≤ length l.self.ring.bytes;
  cut : (ks : List Kept) (r : IsRagged l.self.ring l.self.counts ks) → IsCut l.self.ring l.place l.entries r.all;
}

abbrev pub decreases-loop-place : goal.decreases-loop-place
decreases-loop-place l = l.place
