use Rattle.std.proofs.Common.{◌∙◌, sym, ap, arith}
use Rattle.bpf_journal.specs.Tracks.{Track}
use Rattle.bpf_whynot.specs.Answers.{left_after, not_come, reaches, still_text}
use Rattle.bpf_whynot.specs.Asking.{query}
use Rattle.bpf_whynot.specs.Reach.{can_from}
use Rattle.bpf_whynot.specs.Tables.{told_by}
use Rattle.bpf_whynot.proofs.Going.{lost_is, still_is, told_left, told_never, told_only, told_same}
use Rattle.bpf_whynot.proofs.whynot.put_not_come.Goals as goal

pub returns-then-can_from : goal.returns-then-can_from
returns-then-can_from g c = λ program goals are.
    let can = ap (can_from (told_by c.args.search.now.reach.now)) (sym c.machine.ensures) ∙ sym c.can_from.ensures ∙ c.if-can_from.true in
    told_only g.P.Past.state g.P.Past.follows g.P.Past.room g.P.Past.refused g.W.Write.contents
    (λ (t : Track). not_come (told_by c.args.search.now.reach.now) (query c.args.search.now goals) t.history (g.P.Past.state c.args.history.now))
    c.args.history.now c.args.writer.now c.put.new.writer c.args.so_far c.put.result still_text c.only.result c.put.ensures c.only.ensures
    (λ t stands. still_is (told_by c.args.search.now.reach.now) (query c.args.search.now goals) t.history (g.P.Past.state c.args.history.now) can)

pub returns-in-Some : goal.returns-in-Some
returns-in-Some g c = λ program goals are.
    let can = ap (can_from (told_by c.args.search.now.reach.now)) (sym c.machine.ensures) ∙ sym c.can_from.ensures ∙ c.if-can_from.false in
    let test = reaches (told_by c.args.search.now.reach.now) in
    let q = query c.args.search.now goals in
    let y = g.P.Past.state c.args.history.now in
    told_same g.P.Past.state g.P.Past.follows g.P.Past.room g.P.Past.refused g.W.Write.contents
    (λ (t : Track). not_come (told_by c.args.search.now.reach.now) q t.history y) (λ (t : Track). left_after test q 0 t.history y)
    c.args.history.now c.put_left-told.new.history c.args.writer.now c.put_left-told.new.writer c.args.so_far _
    (told_left g.P.Past.state g.P.Past.follows g.P.Past.room g.P.Past.refused g.W.Write.contents
    test q c.args.history.now c.go_back.new.history c.put_left-told.new.history c.args.writer.now c.put_left-told.new.writer c.args.so_far
    c.moves-kept.result c.saturating_add.result c.in-Some.left c.put_left-told.result
    c.moves-kept.ensures (omega (arith, c.moves-kept.type_inv)) c.in-Some.ensures.goes c.go_back.ensures.keeper
    (λ r y at step stood. c.put_left-told.ensures.tells program goals r y are at step stood) c.put_left-told.ensures.keeper
    (λ few. omega (arith, few, c.saturating_add.ensures)))
    (λ t stands. lost_is (told_by c.args.search.now.reach.now) q t.history y can)

pub returns-in-None : goal.returns-in-None
returns-in-None g c = λ program goals are.
    let can = ap (can_from (told_by c.args.search.now.reach.now)) (sym c.machine.ensures) ∙ sym c.can_from.ensures ∙ c.if-can_from.false in
    let test = reaches (told_by c.args.search.now.reach.now) in
    let q = query c.args.search.now goals in
    let y = g.P.Past.state c.args.history.now in
    told_same g.P.Past.state g.P.Past.follows g.P.Past.room g.P.Past.refused g.W.Write.contents
    (λ (t : Track). not_come (told_by c.args.search.now.reach.now) q t.history y) (λ (t : Track). left_after test q 0 t.history y)
    c.args.history.now c.go_back.new.history c.args.writer.now c.put_never.new.writer c.args.so_far c.only-in-None.result
    (told_never g.P.Past.state g.P.Past.follows g.P.Past.room g.P.Past.refused g.W.Write.contents
    test q c.args.history.now c.go_back.new.history c.args.writer.now c.put_never.new.writer c.args.so_far c.put_never.result
    c.moves-kept.result c.only-in-None.result
    c.moves-kept.ensures c.in-None.ensures.goes c.go_back.ensures.keeper c.put_never.ensures c.only-in-None.ensures)
    (λ t stands. lost_is (told_by c.args.search.now.reach.now) q t.history y can)
