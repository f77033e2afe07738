use Rattle.std.proofs.Common.{length, ap, arith}
use Rattle.bpf_ring.proofs.Held.{length-ring}
use Rattle.bpf_journal.proofs.ring_keeper.RingKeeperKeeper.invariant.Goals as goal

pub returns : goal.returns
returns c = λ es held. record {
  size = c.invariant.ensures.sized;
  weighs = omega (arith, ap length held.bytes, length-ring es held.fit, c.invariant.ensures.within);
}
