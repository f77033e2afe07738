use Rattle.std.proofs.Common.{◌<◌, ◌∙◌, arith, length}
use Rattle.std.proofs.lemmas.Grind.{common_steps}
use Rattle.bpf_lines.proofs.Words.{first_some, next_in}
use Rattle.bpf_lines.proofs.named_text.first_in.Goals as goal

pub returns-in-Some-clause-value : goal.returns-in-Some-clause-value
returns-in-Some-clause-value c =
    let l = c.loop-rest in
    let more : 0 < length l.rest.now = grind (arith, common_steps) in
    first_some c.args.names.now l.rest.now c.sides.result.0.now c.in-Some.at more c.sides.ensures.before c.in-Some.ensures.value ∙ l.invariant

pub loop-rest-preserved : goal.loop-rest-preserved
loop-rest-preserved c =
    let l = c.loop-rest in
    let more : 0 < length l.rest.now = grind (arith, common_steps) in
    next_in c.args.names.now l.rest.now c.sides.result.0.now c.sides.result.1.now more c.sides.ensures.before c.sides.ensures.after c.in-None.ensures.value
    ∙ l.invariant
