use Rattle.std.proofs.Common.{◌≡◌, List, length}
use Rattle.bpf_entries.specs.Keeping.{Kept}
use Rattle.bpf_ring.specs.Held.{IsHeld}
use Rattle.bpf_ring.specs.Left.{Left}
use Rattle.bpf_ring.proofs.keeper.RingKeeper.make_room.Given as goal

abbrev pub invariant-loop-self : goal.invariant-loop-self
invariant-loop-self l = record {
  size : l.self.ring.size ≡ l.initial.self.ring.size;
  left : (ks : List Kept) → IsHeld l.initial.self.ring l.initial.self.counts ks → Left l.self.ring l.self.counts l.most ks;
}

abbrev pub decreases-loop-self : goal.decreases-loop-self
decreases-loop-self l = length l.self.ring.bytes
