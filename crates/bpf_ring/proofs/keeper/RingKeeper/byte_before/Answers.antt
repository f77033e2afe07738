use Rattle.std.proofs.Common.{◌≡◌, ◌-◌, ◌∙◌, ℕ, Some, refl, ap, arith}
use Rattle.bpf_entries.specs.Before.{byte_before, depth_before}
use Rattle.bpf_entries.proofs.Texts.{weight_low}
use Rattle.bpf_ring.proofs.Held.{stands_at, found_at, some_before}
use Rattle.bpf_ring.proofs.keeper.RingKeeper.byte_before.Goals as goal
use Rattle.bpf_ring.proofs.keeper.RingKeeper.byte_before.Goals.{then-place-lt5-via-then-place-lt5, then-place-lt5-via-else-place-lt5+then-place-len}

pub returns-then-place-lt5-clause-some : goal.returns-then-place-lt5-clause-some
returns-then-place-lt5-clause-some c = λ newer front k held at.
    let now = c.args.self.now in
    let s = stands_at now.ring now.counts c.args.place newer front k held at in
    let here = some_before now.ring c.args.place newer front k s in
    elim c.then-place-lt5.branch [
      | then-place-lt5-via-then-place-lt5 w ↦ absurd (omega (arith, here.0, w.if-place-lt5))
      | then-place-lt5-via-else-place-lt5+then-place-len w ↦ absurd (omega (arith, here.1, w.if-place-len, w.len.ensures.value))
    ]

pub returns-then-count-gt-GREATEST-clause-some : goal.returns-then-count-gt-GREATEST-clause-some
returns-then-count-gt-GREATEST-clause-some c = λ newer front k held at.
    let now = c.args.self.now in
    let s = stands_at now.ring now.counts c.args.place newer front k held at in
    let f = found_at now.ring c.args.place c.len_before.result c.within-count.result newer front k _ s c.len_before.ensures c.within-count.ensures.same refl in
    let low = weight_low k.0 s.fits in
    absurd (omega (arith, f.weighs, low, c.if-count-gt-GREATEST.true))

pub returns-clause-some : goal.returns-clause-some
returns-clause-some c = λ newer front k held at.
    let now = c.args.self.now in
    let s = stands_at now.ring now.counts c.args.place newer front k held at in
    let f = found_at now.ring c.args.place c.len_before.result c.within-count.result newer front k _ s c.len_before.ensures c.within-count.ensures.same refl in
    let told : c.byte_before-old.result ≡ (byte_before c.args.depth k.0 c.args.address c.args.after, depth_before c.args.depth k.0) = c.byte_before-old.ensures k.0 k.1 s.fits f.copied in
    ap (λ (t : ℕ × ℕ). Some (t.0, t.1, c.args.place - c.within-count.result)) told
    ∙ ap (λ n. Some (byte_before c.args.depth k.0 c.args.address c.args.after, depth_before c.args.depth k.0, n)) f.behind
