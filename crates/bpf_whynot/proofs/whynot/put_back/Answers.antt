use Rattle.std.proofs.Common.{arith}
use Rattle.bpf_whynot.specs.Answers.{lies_at}
use Rattle.bpf_whynot.specs.Asking.{query}
use Rattle.bpf_whynot.proofs.Going.{told_left, told_never}
use Rattle.bpf_whynot.proofs.whynot.put_back.Goals as goal

pub returns-in-Some : goal.returns-in-Some
returns-in-Some g c = λ program goals are.
    told_left g.P.Past.state g.P.Past.follows g.P.Past.room g.P.Past.refused g.W.Write.contents
    (lies_at c.args.moves) (query c.args.search.now goals) c.args.history.now c.go_to.new.history c.put_left-told.new.history c.args.writer.now c.put_left-told.new.writer c.args.so_far
    c.moves-kept.result c.saturating_add.result c.in-Some.left c.put_left-told.result
    c.moves-kept.ensures (omega (arith, c.moves-kept.type_inv)) c.in-Some.ensures.goes c.go_to.ensures.keeper
    (λ r y at step stood. c.put_left-told.ensures.tells program goals r y are at step stood) c.put_left-told.ensures.keeper
    (λ few. omega (arith, few, c.saturating_add.ensures))

pub returns-in-None : goal.returns-in-None
returns-in-None g c = λ program goals are.
    told_never g.P.Past.state g.P.Past.follows g.P.Past.room g.P.Past.refused g.W.Write.contents
    (lies_at c.args.moves) (query c.args.search.now goals) c.args.history.now c.go_to.new.history c.args.writer.now c.put_never.new.writer c.args.so_far c.put_never.result
    c.moves-kept.result c.only.result
    c.moves-kept.ensures c.in-None.ensures.goes c.go_to.ensures.keeper c.put_never.ensures c.only.ensures
