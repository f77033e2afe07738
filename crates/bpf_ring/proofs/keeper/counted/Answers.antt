use Rattle.std.proofs.Common.{◌≡◌, ◌-◌, ◌≤◌, length, ap, sym, subst, arith}
use Rattle.bpf_ring.proofs.keeper.counted.Goals as goal
use Rattle.bpf_ring.proofs.Walks.{walk_begins, walk_on, walk_ends}

pub loop-place-init : goal.loop-place-init
loop-place-init c = record {
  within = omega arith;
  walked = λ ks fit bytes. walk_begins c.none-counts.result ks c.none-counts.ensures;
}

pub loop-place-preserved : goal.loop-place-preserved
loop-place-preserved c =
    let now = c.args.ring.now in
    let len = c.len-len.ensures.value in
    let small : length now.bytes ≤ 16777216 = omega (arith, len, c.len-len.ensures.within, c.size-size.ensures.value, c.size-size.ensures.sized.1) in
    let rest : length now.bytes - c.loop-place.place ≡ c.len-len.result - c.loop-place.place = ap (λ n. n - c.loop-place.place) (sym len) in
    record {
      within = omega (arith, c.within-place.ensures.range.1, c.loop-place.invariant.within);
      walked = λ ks fit bytes.
          walk_on now c.loop-place.counts c.add_by_tag.new.self c.loop-place.place c.len_at.result c.within-place.result c.tag_at.result ks fit bytes
          (omega (arith, c.loop-place-test.true, len)) small c.len_at.ensures
          (λ a b. c.within-place.ensures.same a (subst (λ n. c.len_at.result ≤ n) rest b))
          c.tag_at.ensures c.add_by_tag.ensures (c.loop-place.invariant.walked ks fit bytes);
    }

pub returns : goal.returns
returns c = λ ks fit bytes.
    walk_ends c.args.ring.now c.loop-place.counts c.loop-place.place ks fit bytes (omega (arith, c.loop-place-test.false, c.len-len.ensures.value)) (c.loop-place.invariant.walked ks fit bytes)
