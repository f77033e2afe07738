use Rattle.std.proofs.Common.{◌≡◌}
use Rattle.bpf_session.specs.WatchRuns.{addresses}
use Rattle.bpf_session.proofs.watches.run.addresses_from.Given as goal

abbrev pub invariant-loop-k : goal.invariant-loop-k
invariant-loop-k l = l.run.items ≡ addresses l.address l.k
