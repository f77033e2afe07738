use Rattle.std.proofs.Common.{ap, ◌∙◌}
use Rattle.bpf_join.specs.Functions.{answers}
use Rattle.bpf_join.proofs.Joining.{last_inside, last_more}
use Rattle.bpf_join.proofs.functions.answering.Goals as goal

pub loop-i-preserved : goal.loop-i-preserved
loop-i-preserved c = record {
  found =
      last_more _ c.loop-i.i c.answers.result c.loop-i.found c.latest-found.result c.latest-found.ensures
      (c.answers.ensures ∙ ap (answers c.args.functions.now c.args.helper.now) c.at-symbol.ensures) c.loop-i.invariant.found;
  below = last_inside _ c.loop-i.i c.answers.result c.loop-i.found c.latest-found.result c.latest-found.ensures (rw c.len-i-end.ensures at c.loop-i-test.true) c.loop-i.invariant.below;
}
