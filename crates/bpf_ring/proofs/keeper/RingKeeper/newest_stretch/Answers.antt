use Rattle.std.proofs.Common.{◌-◌, ℕ, List, length, take, sym, subst}
use Rattle.bpf_ring.proofs.Ways.{behind_others, text_so}
use Rattle.bpf_ring.specs.Ways.{HasText}
use Rattle.bpf_ring.proofs.keeper.RingKeeper.newest_stretch.Goals as goal

pub returns-clause-stretch : goal.returns-clause-stretch
returns-clause-stretch c = λ ks held.
    let now = c.args.self.now in
    let text = c.newest_run.result.now in
    let front = take (length now.ring.bytes - length text) now.ring.bytes in
    c.stretch_in.ensures.stretch front ks
    (subst (λ (l : List ℕ). HasText l ks) (sym (behind_others now.ring.bytes text c.newest_run.ensures.newest)) (text_so now.ring now.counts ks held))
