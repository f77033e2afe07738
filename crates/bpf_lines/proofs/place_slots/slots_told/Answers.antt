use Rattle.std.proofs.Common.{◌<◌, ◌∙◌, arith, length}
use Rattle.std.proofs.lemmas.Grind.{common_steps}
use Rattle.bpf_lines.proofs.Pushing.{one_row}
use Rattle.bpf_lines.proofs.place_slots.slots_told.Goals as goal

pub loop-rest-preserved : goal.loop-rest-preserved
loop-rest-preserved c =
    let l = c.loop-rest in
    let more : 0 < length l.rest.now = grind (arith, common_steps) in
    one_row c.args.of_object c.args.what.now l.slots.items c.push_row.new.slots.items l.rest.now c.sides.result.0.now c.sides.result.1.now more
    c.sides.ensures.before c.sides.ensures.after c.in_ok-push_row.ensures
    ∙ l.invariant
