use Rattle.std.proofs.Common.{ap, subst, ◌++◌, Bool, []}
use Rattle.bpf_steps.specs.State.{State}
use Rattle.bpf_remote.specs.Answers.{text_of}
use Rattle.bpf_remote.specs.Connections.{acknowledgement, packet, DoesRequest, IsConsole}
use Rattle.bpf_remote.specs.Remarks.{is_told, remark_text}
use Rattle.bpf_remote.specs.Turning.{Tells}
use Rattle.bpf_remote.specs.declared.request.Request.{Request}
use Rattle.bpf_remote.proofs.Consoles.{remarked}
use Rattle.bpf_remote.proofs.serving.answer_request.Goals as goal

pub returns : goal.returns
returns g c = λ before.
    let told = c.obey-told.result.0 in
    let moves = c.obey-told.result.1 in
    let text = text_of c.manners_after-talk.result c.cpu-3.result.now told in
    let console = c.put_console-remarked.ensures in
    subst (λ (r : Request). Tells {E = _} g.W.Write.contents
    (record { session = c.args.session.now; talk = c.args.talk.now; writer = c.args.writer.now })
    (record {
      session = c.obey-told.new.session;
      talk = record { manners = c.manners_after-talk.result; conditions = c.keep_conditions.new.conditions; answer = c.append_answer.new.body };
      writer = c.put_answer-wrote.new.writer;
    })
    c.put_answer-wrote.result
    (λ last told on. DoesRequest g.K.Keeper.holds g.K.Keeper.refused g.K.Keeper.room
    (record { place = record { session = c.args.session.now; manners = c.args.talk.now.manners; last = before }; conditions = c.args.talk.now.conditions })
    (record { place = record { session = c.obey-told.new.session; manners = c.manners_after-talk.result; last = last }; conditions = c.keep_conditions.new.conditions }) r told on)
    c.goes_on.result)
    c.request_of-request.ensures
    (record {
      last = text;
      told = acknowledgement c.args.talk.now.manners ++ console.0 ++ packet c.is_answered.result text;
      done = (
        told,
        (
          moves,
          c.obey-told.ensures,
          c.manners_after-talk.ensures,
          ap (λ (x : State). text_of c.manners_after-talk.result x told) c.cpu-3.ensures,
          c.remark_of-remark.result,
          (λ t past. remarked _ _ _ _ _ _ _ _ _ _ _ c.remark_of-remark.ensures c.cpu.ensures c.limit.ensures c.saturating_sub-dropped.ensures (c.kept.ensures t past)),
          console.0,
          subst (λ (x : State). IsConsole (is_told c.remark_of-remark.result) (remark_text c.remark_of-remark.result x) console.0) c.cpu-2.ensures console.1,
          ap (λ (b : Bool). acknowledgement c.args.talk.now.manners ++ console.0 ++ packet b text) c.is_answered.ensures,
          c.goes_on.ensures,
        ),
        c.keep_conditions.ensures,
      );
      held = c.append_answer.ensures [] c.clear.ensures;
      written = c.put_answer-wrote.ensures text (c.append_answer.ensures [] c.clear.ensures) _ _ (console.2 _ _ c.acknowledge-begun.ensures);
    })
