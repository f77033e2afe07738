use Rattle.std.proofs.Common.{◌-◌, refl, arith}
use Rattle.std.specs.Prelude.{sum_by}
use Rattle.bpf_entries.specs.Keeping.{kept_weight}
use Rattle.bpf_entries.proofs.Texts.{weight_low}
use Rattle.bpf_ring.proofs.Held.{stands_at, found_at, some_before, walked}
use Rattle.bpf_ring.proofs.keeper.RingKeeper.walk_back.Goals as goal
use Rattle.bpf_ring.proofs.keeper.RingKeeper.walk_back.Goals.{then-place-lt5-via-then-place-lt5, then-place-lt5-via-else-place-lt5+then-place-len}

pub returns-then-place-lt5-clause-some : goal.returns-then-place-lt5-clause-some
returns-then-place-lt5-clause-some c = λ newer front k held at.
    let now = c.args.self.now in
    let s = stands_at now.ring now.counts c.args.place newer front k held at in
    let here = some_before now.ring c.args.place newer front k s in
    elim c.then-place-lt5.branch [
      | then-place-lt5-via-then-place-lt5 w ↦ absurd (omega (arith, here.0, w.if-place-lt5))
      | then-place-lt5-via-else-place-lt5+then-place-len w ↦ absurd (omega (arith, here.1, w.if-place-len, w.len.ensures.value))
    ]

pub returns-then-count-gt-GREATEST-clause-some : goal.returns-then-count-gt-GREATEST-clause-some
returns-then-count-gt-GREATEST-clause-some c = λ newer front k held at.
    let now = c.args.self.now in
    let s = stands_at now.ring now.counts c.args.place newer front k held at in
    let f = found_at now.ring c.args.place c.len_before.result c.within-count.result newer front k _ s c.len_before.ensures c.within-count.ensures.same refl in
    let low = weight_low k.0 s.fits in
    absurd (omega (arith, f.weighs, low, c.if-count-gt-GREATEST.true))

pub returns-in-Some-clause-some : goal.returns-in-Some-clause-some
returns-in-Some-clause-some c = λ newer front k held at.
    let now = c.args.self.now in
    let s = stands_at now.ring now.counts c.args.place newer front k held at in
    let f = found_at now.ring c.args.place c.len_before.result c.within-count.result newer front k _ s c.len_before.ensures c.within-count.ensures.same c.copy_part.ensures in
    walked c.read.result c.in-Some.entry k.0 c.in-Some.mark k.1 (c.args.place - c.within-count.result) (sum_by kept_weight front) c.in-Some.is (c.read.ensures k.0 k.1 s.fits f.copied) f.behind

pub returns-in-None-clause-some : goal.returns-in-None-clause-some
returns-in-None-clause-some c = λ newer front k held at.
    let now = c.args.self.now in
    let s = stands_at now.ring now.counts c.args.place newer front k held at in
    let f = found_at now.ring c.args.place c.len_before.result c.within-count.result newer front k _ s c.len_before.ensures c.within-count.ensures.same c.copy_part.ensures in
    let read = c.read.ensures k.0 k.1 s.fits f.copied in
    absurd cc
