use Rattle.std.proofs.Common.{◌≤◌, sym, subst}
use Rattle.bpf_ring.proofs.keeper.RingKeeper.drop_oldest.Goals as goal
use Rattle.bpf_ring.proofs.Held.{drop_held}

pub returns-clause-held : goal.returns-clause-held
returns-clause-held c = λ ks z held.
    drop_held c.args.self.now.ring c.drop_oldest.new.self c.args.self.now.counts c.subtract.new.self c.oldest-len.result.0 c.within-count.result c.oldest-len.result.1 ks z held
    c.oldest-len.ensures.len c.oldest-len.ensures.tag
    (λ a b. c.within-count.ensures.same a (subst (λ k. c.oldest-len.result.0 ≤ k) (sym c.len.ensures.value) b))
    c.drop_oldest.ensures.bytes c.subtract.ensures.oldest
