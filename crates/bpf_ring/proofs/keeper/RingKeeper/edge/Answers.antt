use Rattle.std.proofs.Common.{refl, arith}
use Rattle.bpf_ring.proofs.Edges.{cut_ends, cut_more}
use Rattle.bpf_ring.proofs.keeper.RingKeeper.edge.Goals as goal
use Rattle.bpf_ring.proofs.keeper.RingKeeper.edge.Goals.{then-count-lt1-via-then-count-lt1, then-count-lt1-via-else-count-lt1+then-count-place}

pub returns-then-count-lt1-clause-behind : goal.returns-then-count-lt1-clause-behind
returns-then-count-lt1-clause-behind c = λ ks r.
    let now = c.args.self.now in
    let place = c.loop-place.place in
    let read = c.len_before-count in
    cut_ends now.ring now.counts ks r place c.loop-place.entries (c.loop-place.invariant.cut ks r)
    (λ w some is.
    let e = is (omega (arith, c.loop-place-test.true)) read.result read.ensures in
    elim c.then-count-lt1.branch [
      | then-count-lt1-via-then-count-lt1 v ↦ omega (arith, v.if-count-lt1.true, e, some)
      | then-count-lt1-via-else-count-lt1+then-count-place v ↦ omega (arith, v.if-count-place.true, e)
    ])
    _ refl refl

pub loop-place-preserved : goal.loop-place-preserved
loop-place-preserved c =
    let now = c.args.self.now in
    let read = c.len_before-count in
    let place = c.loop-place.place in
    record {
      within = omega (arith, c.loop-place.invariant.within, c.if-count-lt1.false, c.if-count-place.false);
      cut = λ ks r.
          cut_more now.ring now.counts ks r place c.loop-place.entries read.result (c.loop-place.invariant.cut ks r) (omega (arith, c.loop-place-test.true)) read.ensures (omega (arith, c.if-count-lt1.false)) (omega (arith, c.if-count-place.false));
    }

pub returns-clause-behind : goal.returns-clause-behind
returns-clause-behind c = λ ks r.
    let now = c.args.self.now in
    cut_ends now.ring now.counts ks r c.loop-place.place c.loop-place.entries (c.loop-place.invariant.cut ks r) (λ w some is. omega (arith, some, c.loop-place-test.false)) _ refl refl
