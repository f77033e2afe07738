use Rattle.std.proofs.Common.{◌≤◌, ◌-◌, ℕ, Some, length, ap, ◌∙◌, sym, subst}
use Rattle.bpf_entries.specs.Weights.{weight}
use Rattle.bpf_ring.specs.declared.keeper.Head.{Head}
use Rattle.bpf_ring.proofs.keeper.RingKeeper.newest_apart.Goals as goal
use Rattle.bpf_ring.proofs.Held.{newest_count, newest_tag, TagAt}

abbrev head : ℕ → ℕ → Head
head len tag = record { len = len; tag = tag }

pub returns-clause-some : goal.returns-clause-some
returns-clause-some c = λ ks k held.
    let now = c.args.self.now in
    let at = ap (λ n. n - c.within-count.result) c.len-len.ensures.value in
    let same = λ (a : 1 ≤ c.newest_len.result) (b : c.newest_len.result ≤ length now.ring.bytes). c.within-count.ensures.same a (subst (λ n. c.newest_len.result ≤ n) (sym c.len-len.ensures.value) b) in
    let count = newest_count now.ring now.counts c.newest_len.result c.within-count.result ks k held c.newest_len.ensures same in
    let tag = newest_tag now.ring now.counts c.newest_len.result c.within-count.result c.tag_at-tag.result ks k held c.newest_len.ensures same (subst (λ p. TagAt now.ring p c.tag_at-tag.result) at c.tag_at-tag.ensures) in
    ap (λ n. Some (head n c.tag_at-tag.result)) count ∙ ap (λ n. Some (head (weight k.0) n)) tag
