use Rattle.std.proofs.Common.{◌≡◌, refl, arith}
use Rattle.bpf_session.proofs.Redoing.{Redoing, redoing_cut, redoing_none, redoing_step, redoing_steps, redoing_end}
use Rattle.bpf_session.proofs.session.Session.go_on.Goals as goal

pub returns-in-Err : goal.returns-in-Err
returns-in-Err g c =
    let fails = c.in-Err.ensures.err in
    let steps = c.redo_at_once-steps in
    let none : steps.result ≡ 0 = omega (arith, c.if-steps-gt0.false) in
    let i : Redoing g.K.Keeper.holds g.K.Keeper.refused g.K.Keeper.room c.args.self.now steps.new.self c.loop-made.made =
    redoing_none _ _ _ _ _ _ _ steps.result none c.loop-made.invariant.1 (record { breaks = steps.ensures.only.0; watches = steps.ensures.only.1; limit = steps.ensures.only.2 }) steps.ensures.made steps.ensures.refused steps.ensures.room in
    rw c.cut_short.ensures
    (redoing_cut _ _ _ _ _ _ _ c.args.moves c.args.why c.loop-made-test.true c.requires.there (rw (← c.self.view_is) at i) (record { breaks = refl; watches = refl; limit = refl }) fails.1 (rw fails.0 at c.in-Err.ensures.refused) c.in-Err.ensures.room)

pub loop-made-preserved-then-steps-gt0 : goal.loop-made-preserved-then-steps-gt0
loop-made-preserved-then-steps-gt0 g c =
    let steps = c.redo_at_once-steps in (
      omega (arith, steps.ensures.within, c.loop-made.invariant.0),
      redoing_steps _ _ _ _ _ _ _ steps.result c.loop-made.invariant.1 (record { breaks = steps.ensures.only.0; watches = steps.ensures.only.1; limit = steps.ensures.only.2 }) steps.ensures.made steps.ensures.refused steps.ensures.room,
    )

pub loop-made-preserved : goal.loop-made-preserved
loop-made-preserved g c =
    let steps = c.redo_at_once-steps in
    let none : steps.result ≡ 0 = omega (arith, c.if-steps-gt0.false) in
    let i : Redoing g.K.Keeper.holds g.K.Keeper.refused g.K.Keeper.room c.args.self.now steps.new.self c.loop-made.made =
    redoing_none _ _ _ _ _ _ _ steps.result none c.loop-made.invariant.1 (record { breaks = steps.ensures.only.0; watches = steps.ensures.only.1; limit = steps.ensures.only.2 }) steps.ensures.made steps.ensures.refused steps.ensures.room in (
      omega (arith, c.loop-made-test.true),
      redoing_step _ _ _ _ _ _ _ (rw (← c.self.view_is) at i) (record { breaks = refl; watches = refl; limit = refl }) _ c.in-Ok.ensures.ok c.in-Ok.ensures.refused c.in-Ok.ensures.room,
    )

pub returns : goal.returns
returns g c =
    let fin = c.loop-made-test.false in
    let within = c.loop-made.invariant.0 in
    redoing_end _ _ _ _ _ c.args.moves c.loop-made.made c.args.why (omega (arith, fin, within)) c.requires.told c.requires.there c.loop-made.invariant.1
