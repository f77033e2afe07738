use Rattle.std.proofs.Common.{◌≡◌, ◌∙◌, ap, arith, false, refl, sym, true}
use Rattle.bpf_entries.specs.Status.{has_ended}
use Rattle.bpf_trace.proofs.Marking.{marks-none}
use Rattle.bpf_trace.proofs.Runs.{Follows-start, Follows-step, Follows-read, Follows-ended, Follows-all}
use Rattle.bpf_trace.proofs.strict_run.find_unwritten.Goals as goal

pub loop-k-init : goal.loop-k-init
loop-k-init c = Follows-start c.args.own c.args.limit c.args.cpu.now _ (marks-none _ refl)

pub returns-then-has_ended-clause-found : goal.returns-then-has_ended-clause-found
returns-then-has_ended-clause-found c =
    let over : has_ended c.loop-k.cpu.status ≡ true = ap has_ended (sym c.status.ensures) ∙ sym c.has_ended.ensures ∙ c.if-has_ended.true in
    Follows-ended c.args.own c.args.limit c.args.cpu.now c.loop-k.cpu c.loop-k.k c.loop-k.marks c.loop-k.invariant over

pub returns-in-Some-clause-found : goal.returns-in-Some-clause-found
returns-in-Some-clause-found c =
    let on : has_ended c.loop-k.cpu.status ≡ false = ap has_ended (sym c.status.ensures) ∙ sym c.has_ended.ensures ∙ c.if-has_ended.false in
    let i = c.loop-k.invariant in
    rw (c.pc.ensures, c.call_of.ensures, c.in-Some.ensures.some) (Follows-read c.args.own c.args.limit c.args.cpu.now c.loop-k.cpu c.loop-k.k c.loop-k.marks i c.in-Some.address c.loop-k-test.true on
    (sym c.in-Some.is ∙ c.go_on.ensures.read i.before i.marked))

pub loop-k-preserved : goal.loop-k-preserved
loop-k-preserved c =
    let on : has_ended c.loop-k.cpu.status ≡ false = ap has_ended (sym c.status.ensures) ∙ sym c.has_ended.ensures ∙ c.if-has_ended.false in
    let i = c.loop-k.invariant in
    rw c.in-None.ensures.none (Follows-step c.args.own c.args.limit c.args.cpu.now c.loop-k.cpu c.loop-k.k c.loop-k.marks i _ c.loop-k-test.true on
    (sym c.in-None.is ∙ c.go_on.ensures.read i.before i.marked) (c.in-None.ensures.marks i.before i.marked))

pub returns-clause-found : goal.returns-clause-found
returns-clause-found c =
    let fin = c.loop-k-test.false in
    let within = c.loop-k.auto.k-end in
    Follows-all c.args.own c.args.limit c.args.cpu.now c.loop-k.cpu c.loop-k.k c.loop-k.marks c.loop-k.invariant (omega (arith, fin, within))

pub returns-then-has_ended-clause-program : goal.returns-then-has_ended-clause-program
returns-then-has_ended-clause-program c = c.loop-k.invariant.same

pub returns-in-Some-clause-program : goal.returns-in-Some-clause-program
returns-in-Some-clause-program c = rw c.in-Some.ensures.some c.loop-k.invariant.same

pub returns-clause-program : goal.returns-clause-program
returns-clause-program c = c.loop-k.invariant.same
