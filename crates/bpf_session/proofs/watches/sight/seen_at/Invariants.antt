use Rattle.std.proofs.Common.{◌≡◌, take}
use Rattle.bpf_session.specs.WatchRuns.{seen_at}
use Rattle.bpf_session.proofs.watches.sight.seen_at.Given as goal

abbrev pub invariant-loop-address : goal.invariant-loop-address
invariant-loop-address l = l.seen.items ≡ seen_at (take l.address-index l.addresses) l.cpu
