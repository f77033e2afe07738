use Rattle.std.proofs.Common.{◌≡◌, drop}
use Rattle.bpf_session.specs.WatchRuns.{first_changed}
use Rattle.bpf_session.proofs.watches.sight.Sight.first_changed.Given as goal

abbrev pub invariant-loop-seen : goal.invariant-loop-seen
invariant-loop-seen l = first_changed l.self l.cpu ≡ first_changed (drop l.seen-index l.self) l.cpu
