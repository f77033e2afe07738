use Rattle.std.proofs.Common.{◌≡◌, ◌≤◌, ◌-◌, false, List, length}
use Rattle.bpf_entries.specs.Keeping.{Kept}
use Rattle.bpf_entries.specs.Status.{has_ended}
use Rattle.bpf_steps.specs.State.{State}
use Rattle.bpf_ring.specs.Edges.{HoldsAs}
use Rattle.bpf_ring.specs.Held.{RingHolds}
use Rattle.bpf_ring.specs.Runs.{Running, kept_after}
use Rattle.bpf_ring.proofs.keeper.RingKeeper.run_on.Given as goal

abbrev pub invariant-loop-taken : goal.invariant-loop-taken
invariant-loop-taken g l = record {
  runs : has_ended l.cpu.status ≡ false;
  some : 1 ≤ l.taken;
  within : l.taken ≤ l.most;
  size : l.self.ring.size ≡ l.initial.self.ring.size;
  room : length l.room ≡ 4096;
  running : (x : State) → Running (g.T.StopTest.test l.test) x l.initial.cpu 1 → Running (g.T.StopTest.test l.test) x l.cpu l.taken;
  held : (x : State) (ks : List Kept) → Running (g.T.StopTest.test l.test) x l.initial.cpu 1 → RingHolds l.initial.self (kept_after l.initial.self.ring.size 1 x ks) → HoldsAs l.is_ragged l.self (kept_after l.initial.self.ring.size l.taken x ks);
}

abbrev pub decreases-loop-taken : goal.decreases-loop-taken
decreases-loop-taken g l = l.most - l.taken
