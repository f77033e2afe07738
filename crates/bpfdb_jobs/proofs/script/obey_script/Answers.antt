-- Each turn obeys one line more.
use Rattle.std.proofs.Common.{◌≡◌, ◌<◌, ◌∙◌, ◌∷◌, Ok, ap, arith, length}
use Rattle.std.proofs.lemmas.Grind.{common_steps}
use Rattle.counted_io.proofs.Cutting.{lines-cut}
use Rattle.bpfdb_jobs.proofs.Obeying.{going-quit, going-refused, going-start, going-step}
use Rattle.bpfdb_jobs.proofs.script.obey_script.Goals as goal
use Rattle.counted_io.specs.Lines.{lines}

pub loop-rest-init : goal.loop-rest-init
loop-rest-init c = going-start c.args.session.now c.args.script.now

pub returns-in-Ok-None : goal.returns-in-Ok-None
returns-in-Ok-None c =
    let l = c.loop-rest in
    let more : 0 < length l.rest.now = grind (arith, common_steps) in
    let cut : lines l.rest.now ≡ c.sides.result.0.now ∷ lines c.sides.result.1.now =
    rw (c.sides.ensures.before, c.sides.ensures.after) (lines-cut l.rest.now more) in
    going-quit c.args.session.now l.session c.obey_line.new.session c.args.script.now l.rest.now c.sides.result.0.now c.sides.result.1.now l.moves l.invariant cut (rw (c.in-Ok-None.is ∙ ap Ok c.in-Ok-None.field-0-is) at c.obey_line.ensures.leads)

pub returns-in-Err : goal.returns-in-Err
returns-in-Err c =
    let l = c.loop-rest in
    let more : 0 < length l.rest.now = grind (arith, common_steps) in
    let cut : lines l.rest.now ≡ c.sides.result.0.now ∷ lines c.sides.result.1.now =
    rw (c.sides.ensures.before, c.sides.ensures.after) (lines-cut l.rest.now more) in
    going-refused c.args.session.now l.session c.obey_line.new.session c.args.script.now l.rest.now c.sides.result.0.now c.sides.result.1.now l.moves l.invariant cut _ (rw c.in-Err.is at c.obey_line.ensures.leads)

pub loop-rest-preserved : goal.loop-rest-preserved
loop-rest-preserved c =
    let l = c.loop-rest in
    let more : 0 < length l.rest.now = grind (arith, common_steps) in
    let cut : lines l.rest.now ≡ c.sides.result.0.now ∷ lines c.sides.result.1.now =
    rw (c.sides.ensures.before, c.sides.ensures.after) (lines-cut l.rest.now more) in
    going-step c.args.session.now l.session c.obey_line.new.session c.args.script.now l.rest.now c.sides.result.0.now c.sides.result.1.now l.moves l.invariant cut _ (rw (c.in-Ok-Some.is ∙ ap Ok c.in-Ok-Some.field-0-is) at c.obey_line.ensures.leads) c.obey_line.ensures.bounds
