use Rattle.std.proofs.Common.{◌≡◌, take}
use Rattle.bpf_remote.specs.Packets.{sum_of}
use Rattle.bpf_remote.proofs.packet.sum_of.Given as goal

abbrev pub invariant-loop-byte : goal.invariant-loop-byte
invariant-loop-byte l = l.sum ≡ sum_of (take l.byte-index l.body)
