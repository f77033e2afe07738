use Rattle.std.proofs.Common.{arith}
use Rattle.bpf_origin.specs.Wanted.{most_places}
use Rattle.bpf_origin.proofs.Wanting.{run_cut, run_step, run_done}
use Rattle.bpf_origin.proofs.wanted.Wanted.want_run.Goals as goal

pub returns-then-not-want-clause-value : goal.returns-then-not-want-clause-value
returns-then-not-want-clause-value c =
    (run_cut most_places _ _ _ c.args.address c.args.len c.loop-k.k c.loop-k.invariant c.loop-k-test.true (c.if-not-want.ensures.value, c.if-not-want.ensures.all)).0

pub returns-then-not-want-clause-all : goal.returns-then-not-want-clause-all
returns-then-not-want-clause-all c =
    (run_cut most_places _ _ _ c.args.address c.args.len c.loop-k.k c.loop-k.invariant c.loop-k-test.true (c.if-not-want.ensures.value, c.if-not-want.ensures.all)).1

pub loop-k-preserved : goal.loop-k-preserved
loop-k-preserved c =
    run_step most_places _ _ _ c.args.address c.args.len c.loop-k.k c.loop-k.invariant c.loop-k-test.true (c.if-not-want.ensures.value, c.if-not-want.ensures.all)

pub returns-clause-value : goal.returns-clause-value
returns-clause-value c =
    let fin = c.loop-k-test.false in
    let within = c.loop-k.auto.k-end in
    let fits = rw c.as_slice-places.ensures.value at c.as_slice-places.ensures.fits in
    (run_done most_places _ _ c.args.address c.args.len c.loop-k.k c.loop-k.invariant (omega arith) fits).0

pub returns-clause-all : goal.returns-clause-all
returns-clause-all c =
    let fin = c.loop-k-test.false in
    let within = c.loop-k.auto.k-end in
    let fits = rw c.as_slice-places.ensures.value at c.as_slice-places.ensures.fits in
    (run_done most_places _ _ c.args.address c.args.len c.loop-k.k c.loop-k.invariant (omega arith) fits).1
