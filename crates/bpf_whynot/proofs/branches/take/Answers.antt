use Rattle.std.proofs.Common.{◌∷◌, ◌∙◌, Bool, false, ap, sym}
use Rattle.std.specs.Prelude.{◌==◌, if◌then◌else◌}
use Rattle.std.proofs.lemmas.Result.{IfOk-weaker}
use Rattle.bpf_origin.proofs.Turning.{step_of}
use Rattle.bpf_whynot.specs.Standings.{standing}
use Rattle.bpf_whynot.proofs.BranchGoing.{knows_back}
use Rattle.bpf_whynot.proofs.Turning.{turn_values}
use Rattle.bpf_whynot.proofs.branches.take.Goals as goal

pub returns-in_default-clause-takes : goal.returns-in_default-clause-takes
returns-in_default-clause-takes g c = λ k r h f m stands knows.
    let was = (c.take_back.ensures.back (record { history = r ∷ h; ahead = f }) stands).0 in
    let none = c.in_default.is in
    cc

pub returns-in_default-clause-back : goal.returns-in_default-clause-back
returns-in_default-clause-back g c = λ r h f stands.
    let was = (c.take_back.ensures.back (record { history = r ∷ h; ahead = f }) stands).0 in
    let none = c.in_default.is in
    cc

pub returns-then-is_told-clause-takes : goal.returns-then-is_told-clause-takes
returns-then-is_told-clause-takes g c =
    IfOk-weaker c.follow.result _ _
    (λ turn chases. λ k r h f m stands knows.
    let back = c.take_back.ensures.back (record { history = r ∷ h; ahead = f }) stands in
    let step = step_of _ c.in-Some.taken r c.in-Some.is back.0 in
    let hit = c.spare_written-hit.ensures.hit r h f stands in
    let still = c.spare_written-hit.ensures.still r h f stands in
    let is = c.has_line-is_told.ensures ∙ ap (λ (b : Bool). if c.args.hunt.values == 0 then false else b) hit in
    let here = c.cpu-cpu.ensures ∙ back.1.at in
    turn_values g.W.Write.contents c.args.question k r h c.args.course.now.state c.args.wanted.now _ c.args.writer.now c.args.hunt turn
    (rw (here, still) at (c.want_read-all.ensures r.move step)) (sym is ∙ c.if-is_told.true)
    (chases r.before here (knows_back r.before r.move c.args.course.now.state c.args.hunt stands.history.1.0 knows)))
    c.follow.ensures

pub returns-then-is_told-clause-back : goal.returns-then-is_told-clause-back
returns-then-is_told-clause-back g c = λ r h f stands.
    let back = c.take_back.ensures.back (record { history = r ∷ h; ahead = f }) stands in
    record { at = back.1.at; on = back.1.on }

pub returns-clause-takes : goal.returns-clause-takes
returns-clause-takes g c =
    IfOk-weaker c.turn.result _ _
    (λ turn takes. λ k r h f m stands knows.
    let back = c.take_back.ensures.back (record { history = r ∷ h; ahead = f }) stands in
    let step = step_of _ c.in-Some.taken r c.in-Some.is back.0 in
    let hit = c.spare_written-hit.ensures.hit r h f stands in
    let still = c.spare_written-hit.ensures.still r h f stands in
    let is = c.has_line-is_told.ensures ∙ ap (λ (b : Bool). if c.args.hunt.values == 0 then false else b) hit in
    takes k r h c.args.course.now.state c.args.wanted.now still m (c.cpu-cpu.ensures ∙ back.1.at) step
    (c.of-after.ensures ∙ ap standing c.cpu.ensures)
    (knows_back r.before r.move c.args.course.now.state c.args.hunt stands.history.1.0 knows) (sym is ∙ c.if-is_told.false))
    c.turn.ensures

pub returns-clause-back : goal.returns-clause-back
returns-clause-back g c = λ r h f stands.
    let back = c.take_back.ensures.back (record { history = r ∷ h; ahead = f }) stands in
    record { at = back.1.at; on = back.1.on }
