use Rattle.std.proofs.Common.{arith}
use Rattle.bpf_steps.proofs.Running.{steps_more, steps_none}
use Rattle.bpf_session.proofs.Advancing.{plain_is}
use Rattle.bpf_session.proofs.plain.take_steps.Goals as goal

pub loop-taken-init : goal.loop-taken-init
loop-taken-init c = record { steps = steps_none c.args.cpu.now; within = omega arith }

pub loop-taken-preserved : goal.loop-taken-preserved
loop-taken-preserved c = record {
  steps = steps_more c.args.cpu.now c.loop-taken.cpu c.run-count.new.self c.loop-taken.taken c.run-count.result c.loop-taken.invariant.steps c.run-count.ensures.steps;
  within = omega (arith, c.run-count.ensures.within, c.min-most.ensures, c.loop-taken.invariant.within);
}

pub returns-then-count-most : goal.returns-then-count-most
returns-then-count-most c = (plain_is c.args.limit c.args.cpu.now _ _ (record {
  steps = steps_more c.args.cpu.now c.loop-taken.cpu c.run-count.new.self c.loop-taken.taken c.run-count.result c.loop-taken.invariant.steps c.run-count.ensures.steps;
  within = omega (arith, c.run-count.ensures.within, c.min-most.ensures, c.loop-taken.invariant.within);
  all = λ less. c.run-count.ensures.all c.if-count-most.true;
})).1

pub returns : goal.returns
returns c = (plain_is c.args.limit c.args.cpu.now _ _ (record {
  steps = c.loop-taken.invariant.steps;
  within = c.loop-taken.invariant.within;
  all = λ less. absurd (omega (arith, less, c.loop-taken-test.false));
})).1
