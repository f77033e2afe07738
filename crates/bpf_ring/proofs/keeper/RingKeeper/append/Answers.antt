use Rattle.std.proofs.Common.{length, arith}
use Rattle.bpf_ring.proofs.keeper.RingKeeper.append.Goals as goal
use Rattle.bpf_ring.proofs.Held.{appended, few_held}

pub returns-clause-held : goal.returns-clause-held
returns-clause-held c = λ ks e held fits is step.
    let now = c.args.self.now in
    let few = few_held now.ring now.counts now.ring.size (length c.args.text.now) ks c.requires (omega (arith, c.size-size.ensures.value, c.size-size.ensures.sized.1)) held in
    appended now.ring c.push.new.self now.counts c.add.new.self ks e c.args.mark c.args.text.now held fits is c.push.ensures.bytes (c.add.ensures ks e held.counted few step)
