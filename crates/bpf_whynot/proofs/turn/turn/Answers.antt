use Rattle.std.proofs.Common.{◌∙◌, ap, arith}
use Rattle.std.proofs.lemmas.Result.{IfOk-weaker}
use Rattle.bpf_steps.specs.State.{depth}
use Rattle.bpf_whynot.specs.BranchTurns.{quest_of}
use Rattle.bpf_whynot.proofs.Turning.{no_branch, told_as, turn_calls, turn_cuts, turn_passes, turn_tells}
use Rattle.bpf_whynot.proofs.turn.turn.Goals as goal

pub returns-then-deep-own : goal.returns-then-deep-own
returns-then-deep-own g c =
    IfOk-weaker c.leave.result _ _
    (λ turn chases. λ k r h y was still m here step stood knows not.
    let deep = c.depth-deep.ensures ∙ ap depth here in
    let low = c.if-deep-own.true in
    turn_calls g.W.Write.contents c.args.question k r h y was c.args.wanted.now c.args.writer.now c.args.hunt turn still not (omega (arith, deep, low)) (chases r.before here knows))
    c.leave.ensures

pub returns-then-not-some : goal.returns-then-not-some
returns-then-not-some g c = λ k r h y was still m here step stood knows not.
    let deep = c.depth-deep.ensures ∙ ap depth here in
    let high = c.if-deep-own.false in
    turn_passes g.W.Write.contents c.args.question k r h y was c.args.wanted.now c.args.writer.now c.args.hunt still not knows (λ low. omega (arith, deep, high, low))
    (no_branch c.decided_it-decided.result c.kept_it-kept.result c.either-some.result (quest_of c.args.hunt was) r y
    (c.decided_it-decided.ensures r y here step stood knows) (c.kept_it-kept.ensures r y here step stood knows.1)
    c.either-some.ensures c.if-not-some.true)

pub returns-then-lines-eq0 : goal.returns-then-lines-eq0
returns-then-lines-eq0 g c = λ k r h y was still m here step stood knows not.
    let deep = c.depth-deep.ensures ∙ ap depth here in
    let high = c.if-deep-own.false in
    turn_cuts g.W.Write.contents c.args.question k r h y was c.args.wanted.now c.args.writer.now c.put.new.writer c.args.hunt c.decided_it-decided.result c.put.result
    (told_as c.decided_it-decided.result c.kept_it-kept.result c.either-some.result (quest_of c.args.hunt was) r y
    (c.decided_it-decided.ensures r y here step stood knows) (c.kept_it-kept.ensures r y here step stood knows.1)
    c.either-some.ensures c.if-not-some.false not (λ low. omega (arith, deep, high, low)))
    c.if-lines-eq0.true c.put.ensures

pub returns : goal.returns
returns g c =
    IfOk-weaker c.follow.result _ _
    (λ turn chases. λ k r h y was still m here step stood knows not.
    let deep = c.depth-deep.ensures ∙ ap depth here in
    let high = c.if-deep-own.false in
    let more = c.if-lines-eq0.false in
    turn_tells g.W.Write.contents c.args.question k r h y was c.args.wanted.now c.args.writer.now c.put_kept-begun.new.writer c.put_line-told.new.writer c.args.hunt
    c.decided_it-decided.result c.put_kept-begun.result c.put_line-told.result turn still
    (told_as c.decided_it-decided.result c.kept_it-kept.result c.either-some.result (quest_of c.args.hunt was) r y
    (c.decided_it-decided.ensures r y here step stood knows) (c.kept_it-kept.ensures r y here step stood knows.1)
    c.either-some.ensures c.if-not-some.false not (λ low. omega (arith, deep, high, low)))
    (omega (arith, more)) c.put_kept-begun.ensures
    (rw (m, here) at (c.put_line-told.ensures r.move y step stood)) ((rw c.told_on.ensures at chases) r.before here knows))
    c.follow.ensures
