use Rattle.std.proofs.Common.{◌∙◌, ap}
use Rattle.bpf_origin.specs.Pasts.{refusals_left}
use Rattle.bpf_whynot.proofs.look.look_why.Goals as goal

pub returns-clause-text : goal.returns-clause-text
returns-clause-text g c = λ program goals are t follows. (c.put_whynot-told.ensures program goals are).text t follows

pub returns-clause-back : goal.returns-clause-back
returns-clause-back g c = λ program goals are.
    let told = c.put_whynot-told.ensures program goals are in
    record {
      stands = λ t follows. c.go_on.ensures.stands t c.args.course.now.state follows.history.1 (told.within t follows) (told.back t follows);
      leaves = record {
        none = c.go_on.ensures.left.none;
        refused = c.go_on.ensures.left.refused ∙ ap (refusals_left c.go_on.result) told.keeper.refused;
      };
      size = c.go_on.ensures.room ∙ told.keeper.room;
    }
