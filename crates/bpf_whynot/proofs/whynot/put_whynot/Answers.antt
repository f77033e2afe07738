use Rattle.std.proofs.Common.{◌∙◌, Bool, Option, ap, sym}
use Rattle.std.specs.Prelude.{if◌then◌else◌}
use Rattle.bpf_journal.specs.Tracks.{Track}
use Rattle.bpf_origin.specs.Answers.{with_line}
use Rattle.bpf_whynot.specs.Answers.{made_line, not_come, not_come_but, over_at, why_not}
use Rattle.bpf_whynot.specs.Asking.{query}
use Rattle.bpf_whynot.specs.Tables.{told_by}
use Rattle.bpf_whynot.specs.declared.made.Made.{Made}
use Rattle.bpf_whynot.proofs.Going.{told_line}
use Rattle.bpf_whynot.proofs.whynot.put_whynot.Goals as goal

pub returns-in_default : goal.returns-in_default
returns-in_default g c = λ program goals are. rw c.in_default.is (c.put_not_come.ensures program goals are)

pub returns-then-has_none : goal.returns-then-has_none
returns-then-has_none g c = λ program goals are.
    let can = told_by c.args.search.now.reach.now in
    let q = query c.args.search.now goals in
    let y = g.P.Past.state c.args.history.now in
    let m = c.in-Some.made in
    told_line g.P.Past.state g.P.Past.follows g.P.Past.room g.P.Past.refused g.W.Write.contents
    (λ (t : Track). why_not can q t.history y) (λ (t : Track). over_at q m.branch t.history y)
    c.args.history.now c.put_over.new.history c.args.writer.now c.put_made-told.new.writer c.put_over.new.writer c.args.so_far c.put_made-told.result
    (made_line q.question.places y.program m) c.put_over.result
    (rw (c.program.ensures, c.machine.ensures) at c.put_made-told.ensures)
    (c.put_over.ensures program goals are)
    (λ t stands.
    ap (λ (m : Option Made). not_come_but can q m t.history y) c.in-Some.is
    ∙ ap (λ (b : Bool). with_line (made_line q.question.places y.program m) (if b then over_at q m.branch t.history y else not_come can q t.history y))
    (sym (c.has_none.ensures program goals are) ∙ c.if-has_none.true))

pub returns : goal.returns
returns g c = λ program goals are.
    let can = told_by c.args.search.now.reach.now in
    let q = query c.args.search.now goals in
    let y = g.P.Past.state c.args.history.now in
    told_line g.P.Past.state g.P.Past.follows g.P.Past.room g.P.Past.refused g.W.Write.contents
    (λ (t : Track). why_not can q t.history y) (λ (t : Track). not_come can q t.history y)
    c.args.history.now c.put_not_come-2.new.history c.args.writer.now c.put_made-told.new.writer c.put_not_come-2.new.writer c.args.so_far c.put_made-told.result
    (made_line q.question.places y.program c.in-Some.made) c.put_not_come-2.result
    (rw (c.program.ensures, c.machine.ensures) at c.put_made-told.ensures)
    (c.put_not_come-2.ensures program goals are)
    (λ t stands.
    ap (λ (m : Option Made). not_come_but can q m t.history y) c.in-Some.is
    ∙ ap (λ (b : Bool). with_line (made_line q.question.places y.program c.in-Some.made) (if b then over_at q c.in-Some.made.branch t.history y else not_come can q t.history y))
    (sym (c.has_none.ensures program goals are) ∙ c.if-has_none.false))
