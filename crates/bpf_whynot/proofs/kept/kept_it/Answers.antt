use Rattle.std.proofs.Common.{◌∙◌, ap, sym}
use Rattle.bpf_steps.specs.State.{depth}
use Rattle.bpf_whynot.specs.Keeps.{wall_at}
use Rattle.bpf_whynot.specs.Tables.{is_in}
use Rattle.bpf_whynot.specs.declared.standing.Standing.{Standing}
use Rattle.bpf_whynot.proofs.Keeping.{edit_keeps, step_keeps, still_can}
use Rattle.bpf_whynot.proofs.kept.kept_it.Goals as goal

pub returns-then-is_flagged : goal.returns-then-is_flagged
returns-then-is_flagged c = λ r y here step stood tells.
    let deep = c.depth.ensures ∙ ap depth here in
    let are = rw deep at (c.marks-marks.ensures r.before.program tells) in
    still_can c.marks-marks.result.now c.args.keep.now.places.items (wall_at r.before.program c.args.keep.now.wall (depth r.before)) r y are
    (ap (λ (s : Standing). is_in c.marks-marks.result.now s.slot) (sym stood) ∙ sym c.is_flagged.ensures ∙ c.if-is_flagged.true)

pub returns-then-is_step : goal.returns-then-is_step
returns-then-is_step c = λ r y here step stood tells.
    let deep = c.depth.ensures ∙ ap depth here in
    let are = rw deep at (c.marks-marks.ensures r.before.program tells) in
    let wall = wall_at r.before.program c.args.keep.now.wall (depth r.before) in
    step_keeps c.marks-marks.result.now c.args.keep.now.places.items wall r y are _
    (ap (λ (s : Standing). is_in c.marks-marks.result.now s.slot) (sym stood) ∙ sym c.is_flagged.ensures ∙ c.if-is_flagged.false)
    (sym step ∙ c.if-is_step.true)
    (rw here at (c.could.ensures c.args.keep.now.places.items wall (rw here are)))

pub returns-else-is_step : goal.returns-else-is_step
returns-else-is_step c = λ r y here step stood tells.
    let deep = c.depth.ensures ∙ ap depth here in
    let are = rw deep at (c.marks-marks.ensures r.before.program tells) in
    rw (c.is_flagged-else-is_step.ensures, c.from.ensures, c.pc.ensures, here)
    (edit_keeps c.marks-marks.result.now c.args.keep.now.places.items (wall_at r.before.program c.args.keep.now.wall (depth r.before)) r y are
    (ap (λ (s : Standing). is_in c.marks-marks.result.now s.slot) (sym stood) ∙ sym c.is_flagged.ensures ∙ c.if-is_flagged.false)
    (sym step ∙ c.if-is_step.false))
