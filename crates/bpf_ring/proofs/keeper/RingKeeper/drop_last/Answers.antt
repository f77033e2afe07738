use Rattle.std.proofs.Common.{◌≡◌}
use Rattle.bpf_ring.specs.Heads.{head_of}
use Rattle.bpf_ring.proofs.keeper.RingKeeper.drop_last.Goals as goal

pub returns-in-Some-clause-some : goal.returns-in-Some-clause-some
returns-in-Some-clause-some c = λ ks k held.
    let read = c.in-Some.ensures.some ks k held in
    let is : c.in-Some.head ≡ head_of k = cc in
    c.drop_newest.ensures.held ks k held is
