use Rattle.std.proofs.Common.{Option, Some, None, refl}
use Rattle.bpf_journal.specs.Tracks.{Track}
use Rattle.bpf_whynot.specs.Answers.{all_made_text, left_after, lies_at, over_at, over_text}
use Rattle.bpf_whynot.specs.Asking.{query}
use Rattle.bpf_whynot.proofs.Going.{told_line, told_only}
use Rattle.bpf_whynot.proofs.whynot.put_over.Goals as goal

pub returns-in-Some : goal.returns-in-Some
returns-in-Some g c = λ program goals are.
    let q = query c.args.search.now goals in
    let y = g.P.Past.state c.args.history.now in
    rw c.in-Some.is (told_line g.P.Past.state g.P.Past.follows g.P.Past.room g.P.Past.refused g.W.Write.contents
    (λ (t : Track). over_at q (Some c.in-Some.moves) t.history y) (λ (t : Track). left_after (lies_at c.in-Some.moves) q 0 t.history y)
    c.args.history.now c.put_back.new.history c.args.writer.now c.put-begun.new.writer c.put_back.new.writer c.args.so_far c.put-begun.result
    over_text c.put_back.result c.put-begun.ensures
    (c.put_back.ensures program goals are)
    (λ t stands. refl))

pub returns-in-None : goal.returns-in-None
returns-in-None g c = λ program goals are.
    let q = query c.args.search.now goals in
    let y = g.P.Past.state c.args.history.now in
    rw c.in-None.is (told_only g.P.Past.state g.P.Past.follows g.P.Past.room g.P.Past.refused g.W.Write.contents
    (λ (t : Track). over_at q None t.history y)
    c.args.history.now c.args.writer.now c.put.new.writer c.args.so_far c.put.result all_made_text c.only.result c.put.ensures c.only.ensures
    (λ t stands. refl))
