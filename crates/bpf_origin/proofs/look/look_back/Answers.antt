use Rattle.std.proofs.Common.{◌∙◌, ap}
use Rattle.bpf_origin.specs.Pasts.{refusals_left}
use Rattle.bpf_origin.proofs.look.look_back.Goals as goal

pub returns-clause-stands : goal.returns-clause-stands
returns-clause-stands g c = λ t follows.
    c.go_on.ensures.stands t c.args.course.now.state follows.history.1 (c.put_answer-told.ensures.within t follows) (c.put_answer-told.ensures.back t follows)

pub returns-clause-left : goal.returns-clause-left
returns-clause-left g c = record {
  none = c.go_on.ensures.left.none;
  refused = c.go_on.ensures.left.refused ∙ ap (refusals_left c.go_on.result) c.put_answer-told.ensures.keeper.refused;
}

pub returns-clause-room : goal.returns-clause-room
returns-clause-room g c = c.go_on.ensures.room ∙ c.put_answer-told.ensures.keeper.room
