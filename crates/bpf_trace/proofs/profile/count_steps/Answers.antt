use Rattle.std.proofs.Common.{◌∙◌, arith}
use Rattle.bpf_trace.proofs.Counting.{Counts-start, Counts-step, Counts-ended, Counts-all, Counts-plain, runs_if_ok, ended_if_err}
use Rattle.bpf_trace.proofs.profile.count_steps.Goals as goal

pub loop-init : goal.loop-init
loop-init c = Counts-start c.args.limit c.args.cpu.now c.args.counts.now c.requires.slots c.requires.zeros

pub loop-preserved : goal.loop-preserved
loop-preserved c =
    let on = runs_if_ok c.advance.result _ _ c.advance.ensures.err c.in-Ok.is in
    let slot = c.from-slot.ensures ∙ c.pc.ensures in
    let next = rw c.in-Ok.is at c.advance.ensures.next in
    rw (next, slot) (Counts-step c.args.limit c.args.cpu.now c.loop.cpu c.loop.counter c.loop.counts c.loop.invariant c.invariant.ensures on c.loop-test.true)

pub returns-in-Err-clause-counts : goal.returns-in-Err-clause-counts
returns-in-Err-clause-counts c =
    let over = ended_if_err c.advance.result _ _ c.advance.ensures.err c.in-Err.is in
    Counts-ended _ _ c.loop.cpu _ _ c.loop.invariant over

pub returns-in-Err-clause-next : goal.returns-in-Err-clause-next
returns-in-Err-clause-next c =
    let over = ended_if_err c.advance.result _ _ c.advance.ensures.err c.in-Err.is in
    let same = rw c.in-Err.is at c.advance.ensures.same in
    rw same (Counts-plain _ _ _ _ _ c.loop.invariant c.loop.auto.counter-end (λ less. over))

pub returns-clause-counts : goal.returns-clause-counts
returns-clause-counts c = Counts-all _ _ _ _ _ c.loop.invariant (let fin = c.loop-test.false in let within = c.loop.auto.counter-end in omega arith)

pub returns-clause-next : goal.returns-clause-next
returns-clause-next c =
    let fin = c.loop-test.false in
    Counts-plain _ _ _ _ _ c.loop.invariant c.loop.auto.counter-end (λ less. absurd (omega (arith, less, fin)))
