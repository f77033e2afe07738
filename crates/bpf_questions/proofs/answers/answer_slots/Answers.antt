use Rattle.bpf_questions.proofs.Telling.{answers-slots}
use Rattle.bpf_questions.proofs.answers.answer_slots.Goals as goal

pub returns-in_ok-found-in-Ok : goal.returns-in_ok-found-in-Ok
returns-in_ok-found-in-Ok g c =
    let aims = c.in-Ok.ensures.ok in
    answers-slots g.K.Keeper.holds g.K.Keeper.refused g.K.Keeper.room c.args.view.now c.said.result (c.args.session.now, c.args.past) _ c.args.text.now c.args.slots.now c.in_ok-found-in-Ok.found.text.items c.in-Ok.aim
    c.in_ok-found-in-Ok.found.left aims (c.in_ok-found-in-Ok.ensures.back c.args.slots.now aims) (c.in_ok-found-in-Ok.ensures.text c.args.slots.now aims) c.said.ensures
