use Rattle.std.proofs.Common.{◌∙◌}
use Rattle.bpf_lines.specs.Functions.{begins_in}
use Rattle.bpf_lines.proofs.functions.functions_of.Goals as goal

pub loop-i-init : goal.loop-i-init
loop-i-init c = record { marked = c.in-Ok.ensures.ok (begins_in c.args.plan.now c.args.section); size = c.in-Ok.ensures.size }

pub loop-i-preserved : goal.loop-i-preserved
loop-i-preserved c = record {
  marked = c.with_function-marks.ensures.marked c.loop-i.invariant.marked;
  size = c.with_function-marks.ensures.size ∙ c.loop-i.invariant.size;
}
