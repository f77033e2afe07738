use Rattle.bpf_ring.proofs.Touching.{told_newest}
use Rattle.bpf_ring.proofs.keeper.RingKeeper.newest_touched.Goals as goal

pub returns-in-Some : goal.returns-in-Some
returns-in-Some c = λ ks held.
    let now = c.args.self.now in
    let there = c.in-Some in
    told_newest now.ring now.counts there.text.now c.args.depth c.in_text.result ks held there.ensures.least there.ensures.within there.ensures.newest there.ensures.len c.in_text.ensures
