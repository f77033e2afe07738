use Rattle.std.proofs.Common.{◌∙◌, sym}
use Rattle.bpf_journal.specs.Tracks.{Track}
use Rattle.bpf_whynot.specs.Answers.{because, left_by, lost_line}
use Rattle.bpf_whynot.specs.Asking.{query}
use Rattle.bpf_whynot.proofs.Going.{left_is, told_line}
use Rattle.bpf_whynot.proofs.whynot.put_left.Goals as goal

pub returns-clause-tells : goal.returns-clause-tells
returns-clause-tells g c = λ program goals r y are at step stood.
    let stands_there = c.is_goal.ensures program goals r are (c.machine.ensures ∙ at) step in
    told_line g.P.Past.state g.P.Past.follows g.P.Past.room g.P.Past.refused g.W.Write.contents
    (λ (t : Track). left_by (query c.args.search.now goals) c.args.left.moves r t.history y)
    (λ (t : Track). because (query c.args.search.now goals) r t.history)
    c.args.history.now c.put_because.new.history c.args.writer.now c.put_line-told.new.writer c.put_because.new.writer c.args.so_far c.put_line-told.result
    (lost_line c.args.search.now.question.places c.args.left.moves c.machine-2.result.now r.move y) c.put_because.result
    (c.put_line-told.ensures r.move y step stood)
    (c.put_because.ensures.tells goals r at step)
    (λ t stands. left_is (query c.args.search.now goals) c.args.left.moves r t.history c.machine-2.result.now y (sym stands_there ∙ c.if-is_goal.false) (c.machine-2.ensures ∙ at))
