use Rattle.std.proofs.Common.{◌≡◌, false, List}
use Rattle.bpf_entries.specs.Keeping.{Kept}
use Rattle.bpf_entries.specs.Status.{has_ended}
use Rattle.bpf_ring.specs.Runs.{Running, kept_after}
use Rattle.bpf_journal.proofs.keeper.Keeper.run.Given as goal

abbrev pub invariant-loop-k : goal.invariant-loop-k
invariant-loop-k g l = record {
  runs : has_ended l.cpu.status ≡ false;
  running : Running (g.T.StopTest.test l.test) l.fn.cpu l.cpu l.k;
  held : (es : List Kept) → g.Self.Keeper.holds l.fn.self es → g.Self.Keeper.holds l.self (kept_after (g.Self.Keeper.room l.fn.self) l.k l.fn.cpu es);
  refused : g.Self.Keeper.refused l.self ≡ g.Self.Keeper.refused l.fn.self;
  room : g.Self.Keeper.room l.self ≡ g.Self.Keeper.room l.fn.self;
}
