use Rattle.std.proofs.Common.{◌≡◌, List, drop}
use Rattle.bpf_entries.specs.Keeping.{Kept}
use Rattle.bpf_ring.specs.Held.{IsHeld}
use Rattle.bpf_ring.proofs.keeper.RingKeeper.drop_some.Given as goal

abbrev pub invariant-loop : goal.invariant-loop
invariant-loop l = record {
  size : l.self.ring.size ≡ l.fn.self.ring.size;
  held : (ks : List Kept) → IsHeld l.fn.self.ring l.fn.self.counts ks → IsHeld l.self.ring l.self.counts (drop l.counter ks);
}
