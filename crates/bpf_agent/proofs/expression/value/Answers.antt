use Rattle.std.proofs.Common.{sym, ◌∙◌, arith}
use Rattle.bpf_agent.proofs.Values.{value-step, value-out}
use Rattle.bpf_agent.proofs.expression.value.Goals as goal

pub returns-in-Some-Value : goal.returns-in-Some-Value
returns-in-Some-Value c =
    sym (c.loop-k.invariant ∙ value-step _ _ 1024 _ _ _ _ c.loop-k-test.true (sym (rw (c.in-Some-Value.is, c.in-Some-Value.field-0-is) at c.step.ensures)))

pub returns-in-None : goal.returns-in-None
returns-in-None c = sym (c.loop-k.invariant ∙ value-step _ _ 1024 _ _ _ _ c.loop-k-test.true (sym (rw c.in-None.is at c.step.ensures)))

pub loop-k-preserved : goal.loop-k-preserved
loop-k-preserved c =
    c.loop-k.invariant ∙ value-step _ _ 1024 _ _ _ _ c.loop-k-test.true (sym (rw (c.in-Some-At.is, c.in-Some-At.field-0-is) at c.step.ensures))

pub returns : goal.returns
returns c = let h = c.loop-k-test.false in sym (c.loop-k.invariant ∙ value-out _ _ _ _ _ (omega arith))
