use Rattle.std.proofs.Common.{◌≡◌, ◌≤◌, ◌-◌, false, List, length}
use Rattle.bpf_entries.specs.Keeping.{Kept}
use Rattle.bpf_entries.specs.Status.{has_ended}
use Rattle.bpf_steps.specs.State.{State}
use Rattle.bpf_ring.specs.Edges.{HoldsAs}
use Rattle.bpf_ring.specs.Runs.{Running, kept_after, state_after}
use Rattle.bpf_ring.proofs.keeper.RingKeeper.run_pieces.Given as goal

abbrev pub invariant-loop-taken : goal.invariant-loop-taken
invariant-loop-taken g l = record {
  runs : has_ended l.cpu.status ≡ false;
  from : l.fn.run.taken ≤ l.taken;
  within : l.taken ≤ l.most;
  size : l.self.ring.size ≡ l.initial.self.ring.size;
  room : length l.room ≡ 4096;
  running : (x : State) → Running (g.T.StopTest.test l.test) x l.initial.cpu l.fn.run.taken → Running (g.T.StopTest.test l.test) x l.cpu l.taken;
  state : (x : State) → l.initial.cpu ≡ state_after l.fn.run.taken x → l.cpu ≡ state_after l.taken x;
  held : (x : State) (ks : List Kept) → l.initial.cpu ≡ state_after l.fn.run.taken x → HoldsAs l.fn.run.is_ragged l.initial.self (kept_after l.initial.self.ring.size l.fn.run.taken x ks) → HoldsAs l.is_ragged l.self (kept_after l.initial.self.ring.size l.taken x ks);
}

abbrev pub decreases-loop-taken : goal.decreases-loop-taken
decreases-loop-taken g l = l.most - l.taken
