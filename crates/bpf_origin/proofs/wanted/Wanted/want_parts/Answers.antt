use Rattle.std.proofs.Common.{arith}
use Rattle.bpf_origin.specs.Wanted.{most_places}
use Rattle.bpf_origin.proofs.Wanting.{parts_cut, parts_step, parts_done}
use Rattle.bpf_origin.proofs.wanted.Wanted.want_parts.Goals as goal

pub returns-then-not-want_part-clause-value : goal.returns-then-not-want_part-clause-value
returns-then-not-want_part-clause-value c =
    (parts_cut most_places _ _ _ c.args.parts.now c.loop-part.part-index _ c.loop-part.invariant c.loop-part-test.true (c.if-not-want_part.ensures.value, c.if-not-want_part.ensures.all)).0

pub returns-then-not-want_part-clause-all : goal.returns-then-not-want_part-clause-all
returns-then-not-want_part-clause-all c =
    (parts_cut most_places _ _ _ c.args.parts.now c.loop-part.part-index _ c.loop-part.invariant c.loop-part-test.true (c.if-not-want_part.ensures.value, c.if-not-want_part.ensures.all)).1

pub loop-part-preserved : goal.loop-part-preserved
loop-part-preserved c =
    parts_step most_places _ _ _ c.args.parts.now c.loop-part.part-index _ c.loop-part.invariant c.loop-part-test.true (c.if-not-want_part.ensures.value, c.if-not-want_part.ensures.all)

pub returns-clause-value : goal.returns-clause-value
returns-clause-value c =
    let fin = c.loop-part-test.false in
    let within = c.loop-part.auto.part-index-end in
    let fits = rw c.as_slice-places.ensures.value at c.as_slice-places.ensures.fits in
    (parts_done most_places _ _ c.args.parts.now c.loop-part.part-index c.loop-part.invariant (omega arith) fits).0

pub returns-clause-all : goal.returns-clause-all
returns-clause-all c =
    let fin = c.loop-part-test.false in
    let within = c.loop-part.auto.part-index-end in
    let fits = rw c.as_slice-places.ensures.value at c.as_slice-places.ensures.fits in
    (parts_done most_places _ _ c.args.parts.now c.loop-part.part-index c.loop-part.invariant (omega arith) fits).1
