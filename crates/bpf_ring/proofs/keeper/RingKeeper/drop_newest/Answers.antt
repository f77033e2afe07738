use Rattle.std.proofs.Common.{ap}
use Rattle.bpf_ring.specs.declared.keeper.Head.{Head}
use Rattle.bpf_ring.proofs.keeper.RingKeeper.drop_newest.Goals as goal
use Rattle.bpf_ring.proofs.Held.{dropped_exact}

pub returns-clause-held : goal.returns-clause-held
returns-clause-held c = λ ks k held is.
    dropped_exact c.args.self.now.ring c.drop_newest.new.self c.args.self.now.counts c.subtract.new.self c.args.head.len c.args.head.tag ks k held
    (ap (λ (h : Head). h.len) is) (ap (λ (h : Head). h.tag) is) c.drop_newest.ensures.bytes c.subtract.ensures.newest
