use Rattle.std.proofs.Common.{Bool, subst}
use Rattle.bpf_ring.proofs.Edges.{gets_ragged}
use Rattle.bpf_ring.specs.Edges.{HoldsAs}
use Rattle.bpf_ring.proofs.keeper.RingKeeper.gets_ragged.Goals as goal

pub returns : goal.returns
returns c = λ ks held.
    let now = c.args.self.now in
    gets_ragged now.ring now.counts ks c.invariant.ensures.within (c.are_plain.ensures c.if-not-are_plain.false) (subst (λ (b : Bool). HoldsAs b now ks) c.if-was.false held)
