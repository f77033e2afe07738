use Rattle.std.proofs.Common.{◌≡◌, ◌≤◌, ◌+◌, ◌-◌, Bool, true, false, ℕ, [], refl, sym, ap, subst, ◌∙◌, arith}
use Rattle.std.specs.Prelude.{if◌then◌else◌}
use Rattle.bpf_steps.specs.State.{depth}
use Rattle.bpf_journal.specs.Tracks.{track_of}
use Rattle.bpf_session.proofs.Backwards.{Seeking, seeking_step, seeking_found, seeking_on, seeking_end, looked, comparing, went_for}
use Rattle.bpf_session.proofs.GoingOver.{over_for, seeking_far}
use Rattle.bpf_session.specs.Backward.{passes}
use Rattle.bpf_session.specs.Points.{Bounds}
use Rattle.bpf_session.specs.Searches.{GoesBackTo, is_each}
use Rattle.bpf_session.specs.Sessions.{SessionValue, point_of}
use Rattle.bpf_session.proofs.session.Session.back_to.Goals as goal

pub returns-in_default-clause-back : goal.returns-in_default-clause-back
returns-in_default-clause-back g c = λ h past.
    let inside = c.self-in-loop-gone.inside in
    let mid : SessionValue g.row.K.Denot = record { moment = inside.timeline; breaks = inside.breaks; watches = inside.watches; limit = inside.limit } in
    let stops = rw (← c.self-in-loop-gone.view_is) at c.back_over-moves.ensures.stops in
    let bounds = rw (← c.self-in-loop-gone.view_is) at c.back_over-moves.ensures.bounds in
    let i : Seeking g.K.Keeper.holds g.K.Keeper.refused g.K.Keeper.room (passes c.args.target (point_of c.args.self.now (track_of []))) c.args.count c.args.self.now mid c.see_anew.new.seen (c.loop-gone.left - c.hits_over-left.result) (c.loop-gone.gone + c.back_over-moves.result) =
    subst (λ (m : ℕ). Seeking g.K.Keeper.holds g.K.Keeper.refused g.K.Keeper.room (passes c.args.target (point_of c.args.self.now (track_of []))) c.args.count c.args.self.now mid c.see_anew.new.seen (c.loop-gone.left - m) (c.loop-gone.gone + c.back_over-moves.result)) (sym c.hits_over-left.ensures)
    (seeking_far g.K.Keeper.holds g.K.Keeper.refused g.K.Keeper.room (passes c.args.target (point_of c.args.self.now (track_of []))) c.args.count c.args.self.now c.loop-gone.self mid c.loop-gone.seen c.see_anew.new.seen
    c.loop-gone.left c.loop-gone.gone c.back_over-moves.result (is_each c.args.target) c.loop-gone.invariant.seeking
    (record { breaks = stops.0; watches = stops.1; limit = ap (λ (b : Bounds). b.limit) bounds })
    (λ t past. over_for g.K.Keeper.holds c.args.target c.args.self.now c.loop-gone.self c.back_over-moves.result t.history t.ahead c.loop-gone.self.moment.state mid.moment
    c.loop-gone.invariant.seeking.only.breaks c.loop-gone.invariant.seeking.only.watches ((rw (← c.self-in-loop-gone.view_is) at c.back_over-moves.ensures.over) c.args.self.now.moment.state t (c.depth-start.ensures ∙ ap depth c.cpu.ensures) past))
    c.back_over-moves.ensures.fewer (rw (← c.self-in-loop-gone.view_is) at c.back_over-moves.ensures.refused) (ap (λ (b : Bounds). b.room) bounds) (rw c.cpu-in-loop-gone.ensures at c.see_anew.ensures)) in
    let n = c.len-kept.ensures h (rw (← c.self.view_is) at past) in
    let low : c.back_over-moves.result ≤ c.len-kept.result - c.loop-gone.gone - 1 = c.back_over-moves.ensures.within in
    absurd (seeking_on _ _ _ _ _ _ _ _ _ _ _ _ i (record { breaks = refl; watches = refl; limit = refl }) c.in_default.ensures.back refl h past (omega (arith, low, n, c.loop-gone-test.true)))

pub overflow_sub-left : goal.overflow_sub-left
overflow_sub-left g c =
    let one = c.loop-gone.invariant.seeking.some in
    by (is_each c.args.target) refl one
  where
    by : (b : Bool) → is_each c.args.target ≡ b → 1 ≤ c.loop-gone.left → c.hits_over-left.result ≤ c.loop-gone.left
    by true is one = let few = c.back_over-moves.ensures.fewer is in omega (arith, few, c.hits_over-left.ensures ∙ ap (λ (b : Bool). if b then c.back_over-moves.result else 0) is)
    by false is one = omega (arith, one, c.hits_over-left.ensures ∙ ap (λ (b : Bool). if b then c.back_over-moves.result else 0) is)

pub returns-then-left-eq0-clause-back : goal.returns-then-left-eq0-clause-back
returns-then-left-eq0-clause-back g c = λ h past.
    let inside = c.self-in-loop-gone.inside in
    let mid : SessionValue g.row.K.Denot = record { moment = inside.timeline; breaks = inside.breaks; watches = inside.watches; limit = inside.limit } in
    let stops = rw (← c.self-in-loop-gone.view_is) at c.back_over-moves.ensures.stops in
    let bounds = rw (← c.self-in-loop-gone.view_is) at c.back_over-moves.ensures.bounds in
    let i : Seeking g.K.Keeper.holds g.K.Keeper.refused g.K.Keeper.room (passes c.args.target (point_of c.args.self.now (track_of []))) c.args.count c.args.self.now mid c.see_anew.new.seen (c.loop-gone.left - c.hits_over-left.result) (c.loop-gone.gone + c.back_over-moves.result) =
    subst (λ (m : ℕ). Seeking g.K.Keeper.holds g.K.Keeper.refused g.K.Keeper.room (passes c.args.target (point_of c.args.self.now (track_of []))) c.args.count c.args.self.now mid c.see_anew.new.seen (c.loop-gone.left - m) (c.loop-gone.gone + c.back_over-moves.result)) (sym c.hits_over-left.ensures)
    (seeking_far g.K.Keeper.holds g.K.Keeper.refused g.K.Keeper.room (passes c.args.target (point_of c.args.self.now (track_of []))) c.args.count c.args.self.now c.loop-gone.self mid c.loop-gone.seen c.see_anew.new.seen
    c.loop-gone.left c.loop-gone.gone c.back_over-moves.result (is_each c.args.target) c.loop-gone.invariant.seeking
    (record { breaks = stops.0; watches = stops.1; limit = ap (λ (b : Bounds). b.limit) bounds })
    (λ t past. over_for g.K.Keeper.holds c.args.target c.args.self.now c.loop-gone.self c.back_over-moves.result t.history t.ahead c.loop-gone.self.moment.state mid.moment
    c.loop-gone.invariant.seeking.only.breaks c.loop-gone.invariant.seeking.only.watches ((rw (← c.self-in-loop-gone.view_is) at c.back_over-moves.ensures.over) c.args.self.now.moment.state t (c.depth-start.ensures ∙ ap depth c.cpu.ensures) past))
    c.back_over-moves.ensures.fewer (rw (← c.self-in-loop-gone.view_is) at c.back_over-moves.ensures.refused) (ap (λ (b : Bounds). b.room) bounds) (rw c.cpu-in-loop-gone.ensures at c.see_anew.ensures)) in
    let n = c.len-kept.ensures h (rw (← c.self.view_is) at past) in
    let low : c.back_over-moves.result ≤ c.len-kept.result - c.loop-gone.gone - 1 = c.back_over-moves.ensures.within in
    let began = c.depth-start.ensures ∙ ap depth c.cpu.ensures in
    let new : SessionValue g.row.K.Denot = record { moment = c.back.new.self; breaks = inside.breaks; watches = inside.watches; limit = inside.limit } in
    went_for _ _ _ h _ _ _
    (seeking_found _ _ _ _ _ _ _ _ _ _ _ _ i (record { breaks = refl; watches = refl; limit = refl }) c.in-Some.ensures.back _ _
    (comparing {K = g.row.K.Denot} _ _ new _ _ _ refl (rw c.cpu-in-loop-gone-2.ensures at c.differ-differs.ensures))
    (looked {K = g.row.K.Denot} c.args.self.now new _ _ _ _ _ i.only.breaks i.only.watches (λ r z. c.hits-left.ensures.value c.args.self.now.moment.state z (track_of []) r began)) c.if-left-eq0.true h past (omega (arith, low, n, c.loop-gone-test.true)))

pub loop-gone-preserved : goal.loop-gone-preserved
loop-gone-preserved g c =
    let inside = c.self-in-loop-gone.inside in
    let mid : SessionValue g.row.K.Denot = record { moment = inside.timeline; breaks = inside.breaks; watches = inside.watches; limit = inside.limit } in
    let stops = rw (← c.self-in-loop-gone.view_is) at c.back_over-moves.ensures.stops in
    let bounds = rw (← c.self-in-loop-gone.view_is) at c.back_over-moves.ensures.bounds in
    let i : Seeking g.K.Keeper.holds g.K.Keeper.refused g.K.Keeper.room (passes c.args.target (point_of c.args.self.now (track_of []))) c.args.count c.args.self.now mid c.see_anew.new.seen (c.loop-gone.left - c.hits_over-left.result) (c.loop-gone.gone + c.back_over-moves.result) =
    subst (λ (m : ℕ). Seeking g.K.Keeper.holds g.K.Keeper.refused g.K.Keeper.room (passes c.args.target (point_of c.args.self.now (track_of []))) c.args.count c.args.self.now mid c.see_anew.new.seen (c.loop-gone.left - m) (c.loop-gone.gone + c.back_over-moves.result)) (sym c.hits_over-left.ensures)
    (seeking_far g.K.Keeper.holds g.K.Keeper.refused g.K.Keeper.room (passes c.args.target (point_of c.args.self.now (track_of []))) c.args.count c.args.self.now c.loop-gone.self mid c.loop-gone.seen c.see_anew.new.seen
    c.loop-gone.left c.loop-gone.gone c.back_over-moves.result (is_each c.args.target) c.loop-gone.invariant.seeking
    (record { breaks = stops.0; watches = stops.1; limit = ap (λ (b : Bounds). b.limit) bounds })
    (λ t past. over_for g.K.Keeper.holds c.args.target c.args.self.now c.loop-gone.self c.back_over-moves.result t.history t.ahead c.loop-gone.self.moment.state mid.moment
    c.loop-gone.invariant.seeking.only.breaks c.loop-gone.invariant.seeking.only.watches ((rw (← c.self-in-loop-gone.view_is) at c.back_over-moves.ensures.over) c.args.self.now.moment.state t (c.depth-start.ensures ∙ ap depth c.cpu.ensures) past))
    c.back_over-moves.ensures.fewer (rw (← c.self-in-loop-gone.view_is) at c.back_over-moves.ensures.refused) (ap (λ (b : Bounds). b.room) bounds) (rw c.cpu-in-loop-gone.ensures at c.see_anew.ensures)) in
    let low : c.back_over-moves.result ≤ c.len-kept.result - c.loop-gone.gone - 1 = c.back_over-moves.ensures.within in
    let began = c.depth-start.ensures ∙ ap depth c.cpu.ensures in
    let new : SessionValue g.row.K.Denot = record { moment = c.back.new.self; breaks = inside.breaks; watches = inside.watches; limit = inside.limit } in
    record {
      within = omega (arith, low, c.loop-gone-test.true);
      seeking =
          seeking_step _ _ _ _ _ _ _ _ _ _ _ _ i (record { breaks = refl; watches = refl; limit = refl }) c.in-Some.ensures.back _ _ _ c.in-Some.ensures.refused c.in-Some.ensures.room
          (comparing {K = g.row.K.Denot} _ _ new _ _ _ refl (rw c.cpu-in-loop-gone-2.ensures at c.differ-differs.ensures)) (rw c.cpu-in-loop-gone-3.ensures at c.see_anew-in-loop-gone.ensures)
          (looked {K = g.row.K.Denot} c.args.self.now new _ _ _ _ _ i.only.breaks i.only.watches (λ r z. c.hits-left.ensures.value c.args.self.now.moment.state z (track_of []) r began)) c.if-left-eq0.false;
    }

pub returns-clause-back : goal.returns-clause-back
returns-clause-back g c = λ h past.
    let n = c.len-kept.ensures h (rw (← c.self.view_is) at past) in
    let all : c.loop-gone.gone ≡ c.len-kept.result = omega (arith, c.loop-gone-test.false, c.loop-gone.invariant.within) in
    went_for _ _ _ h _ _ _
    (subst (λ (k : ℕ). GoesBackTo g.K.Keeper.holds (passes c.args.target (point_of c.args.self.now (track_of []))) c.args.count h c.args.self.now c.loop-gone.self (record { moves = k; is_there = false })) all
    (seeking_end g.K.Keeper.holds g.K.Keeper.refused g.K.Keeper.room _ _ c.args.self.now c.loop-gone.self c.loop-gone.seen c.loop-gone.left c.loop-gone.gone c.loop-gone.invariant.seeking h past (all ∙ n)))
