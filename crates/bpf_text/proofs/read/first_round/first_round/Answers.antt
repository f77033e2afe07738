-- Each turn is a step of the round.
use Rattle.std.proofs.Common.{◌<◌, ◌∙◌, length, ap, sym, arith}
use Rattle.std.proofs.lemmas.Grind.{common_steps}
use Rattle.counted_io.proofs.Cutting.{length-after}
use Rattle.bpf_text.proofs.Rounds.{first_round-Err, first_round-Ok}
use Rattle.bpf_text.specs.Scaffolding.Labels.{labels_of, placed_of}
use Rattle.bpf_text.proofs.read.first_round.first_round.Goals as goal

pub returns-in-Err-clause-err : goal.returns-in-Err-clause-err
returns-in-Err-clause-err c =
    let more : 0 < length c.loop-rest.rest.now = grind (arith, common_steps) in
    sym c.loop-rest.invariant.round
    ∙ first_round-Err (labels_of c.loop-rest.outline, placed_of c.loop-rest.outline) c.loop-rest.slot c.loop-rest.line_number c.loop-rest.rest.now _ _ _ more
    c.sides.ensures.before c.read_line-line.ensures (sym c.in-Err.ensures.value)

pub loop-rest-preserved : goal.loop-rest-preserved
loop-rest-preserved c =
    let more : 0 < length c.loop-rest.rest.now = grind (arith, common_steps) in
    record {
      within = c.in-Ok.ensures.within;
      count = omega (arith, length-after 10 c.loop-rest.rest.now more, ap length c.sides.ensures.after);
      round = first_round-Ok (labels_of c.loop-rest.outline, placed_of c.loop-rest.outline) (labels_of c.push.new.self, placed_of c.push.new.self)
          c.loop-rest.slot c.loop-rest.line_number c.loop-rest.rest.now _ _ _ c.in-Ok.next more c.sides.ensures.before c.sides.ensures.after
          c.read_line-line.ensures (sym c.in-Ok.ensures.value) c.in-Ok-push.ensures.labels c.in-Ok-push.ensures.placed
          ∙ c.loop-rest.invariant.round;
    }
