use Rattle.std.proofs.Common.{◌≡◌, arith, subst, ℕ}
use Rattle.bpf_trace.proofs.Marking.{SetFrom, SetFrom-start, SetFrom-more}
use Rattle.bpf_trace.proofs.marks.set_span.Goals as goal

pub loop-i-init : goal.loop-i-init
loop-i-init c = SetFrom-start c.args.span.from c.args.value c.args.marks.now

pub loop-i-preserved : goal.loop-i-preserved
loop-i-preserved c =
    let low = c.loop-i.auto.i in
    let less = c.loop-i-test.true in
    let all = c.requires.1 in
    SetFrom-more c.args.span.from c.loop-i.i c.args.value c.args.marks.now c.loop-i.marks c.loop-i.invariant (omega (arith, low)) (omega (arith, less, all))

pub returns : goal.returns
returns c =
    let fin = c.loop-i-test.false in
    let within = c.loop-i.auto.i-end in
    let all : c.loop-i.i ≡ c.args.span.to = omega (arith, fin, within) in
    (subst (λ (n : ℕ). SetFrom c.args.span.from n c.args.value c.args.marks.now c.loop-i.marks) all c.loop-i.invariant).each
