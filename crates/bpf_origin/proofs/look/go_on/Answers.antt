use Rattle.std.proofs.Common.{◌≡◌, ◌+◌, ◌-◌, ℕ, ap, refl, subst, sym, ◌∙◌, arith}
use Rattle.bpf_journal.specs.Counts.{one_more}
use Rattle.bpf_origin.specs.Pasts.{CourseStands, gone_from}
use Rattle.bpf_origin.proofs.Backs.{again, keeps_on, never_refused, one_refused}
use Rattle.bpf_origin.proofs.look.go_on.Goals as goal

pub loop-k-init : goal.loop-k-init
loop-k-init g c = (record { room = refl; refused = refl }, λ t y run low at. subst (λ (m : ℕ). CourseStands g.K.Keeper.holds c.args.course.now (gone_from m t y)) (omega arith) at)

pub loop-k-preserved : goal.loop-k-preserved
loop-k-preserved g c = (
  keeps_on g.K.Keeper.room g.K.Keeper.refused _ _ _ c.loop-k.invariant.0 (record { room = c.in-Ok.ensures.room; refused = c.in-Ok.ensures.refused }),
  λ t y run low at.
      let here = c.loop-k-test.true in
      again g.K.Keeper.holds (c.args.moves - (c.loop-k.k + 1)) t.history t.ahead y _ _ _ run (omega (arith, here, low))
      (subst (λ (m : ℕ). CourseStands g.K.Keeper.holds c.loop-k.course (gone_from m t y)) (omega (arith, here)) (c.loop-k.invariant.1 t y run low at))
      c.in-Ok.ensures.ok,
)

pub returns-in-Err-clause-stands : goal.returns-in-Err-clause-stands
returns-in-Err-clause-stands g c = λ t y run low at.
    let was = c.loop-k.invariant.1 t y run low at in
    let stays = c.in-Err.ensures.err.1 in
    record { at = stays.state ∙ was.at; on = stays.stands _ was.on }

pub returns-in-Err-clause-left : goal.returns-in-Err-clause-left
returns-in-Err-clause-left g c =
    let refused = rw c.in-Err.ensures.err.0 at c.in-Err.ensures.refused in
    let here = c.loop-k-test.true in
    record {
      none = λ zero. absurd (never_refused _ _ refused (zero _) (zero _));
      refused = refused ∙ ap one_more c.loop-k.invariant.0.refused ∙ sym (one_refused (c.args.moves - c.loop-k.k) _ (omega (arith, here)));
    }

pub returns-in-Err-clause-room : goal.returns-in-Err-clause-room
returns-in-Err-clause-room g c = c.in-Err.ensures.room ∙ c.loop-k.invariant.0.room

pub returns-clause-stands : goal.returns-clause-stands
returns-clause-stands g c = λ t y run low at.
    let fin = c.loop-k-test.false in
    let within = c.loop-k.auto.k-end in
    let none : c.args.moves - c.loop-k.k ≡ 0 = omega (arith, fin, within) in
    subst (λ (m : ℕ). CourseStands g.K.Keeper.holds c.loop-k.course (gone_from m t y)) none (c.loop-k.invariant.1 t y run low at)

pub returns-clause-left : goal.returns-clause-left
returns-clause-left g c = record { none = λ zero. refl; refused = c.loop-k.invariant.0.refused }

pub returns-clause-room : goal.returns-clause-room
returns-clause-room g c = c.loop-k.invariant.0.room
