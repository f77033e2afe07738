use Rattle.std.proofs.Common.{◌≡◌, ◌∙◌, ap, arith, false, sym, true}
use Rattle.bpf_entries.specs.Status.{has_ended}
use Rattle.bpf_diff.proofs.Leaving.{Sought-all, Sought-ended, Sought-start, Sought-wrote}
use Rattle.bpf_diff.proofs.writer.last_write.Goals as goal

pub loop-k-init : goal.loop-k-init
loop-k-init c = Sought-start c.args.place c.args.limit c.args.cpu.now

pub returns-then-has_ended-clause-value : goal.returns-then-has_ended-clause-value
returns-then-has_ended-clause-value c =
    let over : has_ended c.loop-k.cpu.status ≡ true = ap has_ended (sym c.status.ensures) ∙ sym c.has_ended.ensures ∙ c.if-has_ended.true in
    Sought-ended c.args.place c.args.limit c.args.cpu.now c.loop-k.cpu c.loop-k.k c.loop-k.last c.loop-k.invariant over

pub returns-then-has_ended-clause-within : goal.returns-then-has_ended-clause-within
returns-then-has_ended-clause-within c =
    let low = c.loop-k.invariant.within in
    let less = c.loop-k-test.true in
    omega (arith, low, less)

pub returns-then-has_ended-clause-program : goal.returns-then-has_ended-clause-program
returns-then-has_ended-clause-program c = c.loop-k.invariant.same

pub loop-k-preserved : goal.loop-k-preserved
loop-k-preserved c =
    let on : has_ended c.loop-k.cpu.status ≡ false = ap has_ended (sym c.status.ensures) ∙ sym c.has_ended.ensures ∙ c.if-has_ended.false in
    Sought-wrote c.args.place c.args.limit c.args.cpu.now c.loop-k.cpu c.loop-k.k c.loop-k.last c.loop-k.invariant c.loop-k-test.true on _ _ _
    c.take_step-taken.ensures.next (c.writes_place.ensures c.loop-k.cpu c.take_step-taken.ensures) c.last_of-last.ensures

pub returns-clause-value : goal.returns-clause-value
returns-clause-value c =
    let fin = c.loop-k-test.false in
    let within = c.loop-k.auto.k-end in
    Sought-all c.args.place c.args.limit c.args.cpu.now c.loop-k.cpu c.loop-k.k c.loop-k.last c.loop-k.invariant (omega (arith, fin, within))

pub returns-clause-within : goal.returns-clause-within
returns-clause-within c =
    let low = c.loop-k.invariant.within in
    let within = c.loop-k.auto.k-end in
    omega (arith, low, within)

pub returns-clause-program : goal.returns-clause-program
returns-clause-program c = c.loop-k.invariant.same
