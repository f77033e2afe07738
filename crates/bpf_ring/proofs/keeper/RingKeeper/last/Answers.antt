use Rattle.std.proofs.Common.{◌≤◌, sym, subst, arith}
use Rattle.std.proofs.lemmas.List.Elements.{All-head}
use Rattle.bpf_entries.specs.Fields.{FitsFields}
use Rattle.bpf_entries.proofs.Texts.{weight_low}
use Rattle.bpf_ring.proofs.keeper.RingKeeper.last.Goals as goal
use Rattle.bpf_ring.proofs.Held.{newest_text, newest_count}

pub returns-then-count-gt-GREATEST-clause-some : goal.returns-then-count-gt-GREATEST-clause-some
returns-then-count-gt-GREATEST-clause-some c = λ ks k held.
    let now = c.args.self.now in
    let count = newest_count now.ring now.counts c.newest_len.result c.within-count.result ks k held c.newest_len.ensures
    (λ a b. c.within-count.ensures.same a (subst (λ n. c.newest_len.result ≤ n) (sym c.len-len.ensures.value) b)) in
    let low = weight_low k.0 (All-head (λ k. FitsFields k.0) k ks held.fit) in
    absurd (omega (arith, count, low, c.if-count-gt-GREATEST.true))

pub returns-clause-some : goal.returns-clause-some
returns-clause-some c = λ ks k held.
    let now = c.args.self.now in
    let told = newest_text now.ring now.counts c.newest_len.result c.within-count.result ks k _ held c.newest_len.ensures
    (λ a b. c.within-count.ensures.same a (subst (λ n. c.newest_len.result ≤ n) (sym c.len-len.ensures.value) b)) c.copy_newest.ensures in
    c.read.ensures k.0 k.1 (All-head (λ k. FitsFields k.0) k ks held.fit) told.1
