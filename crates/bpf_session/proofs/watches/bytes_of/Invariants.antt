use Rattle.std.proofs.Common.{◌≡◌, take}
use Rattle.bpf_session.specs.Watched.{bytes_at}
use Rattle.bpf_session.proofs.watches.bytes_of.Given as goal

abbrev pub invariant-loop-address : goal.invariant-loop-address
invariant-loop-address l = l.bytes.items ≡ bytes_at (take l.address-index l.addresses) l.cpu
