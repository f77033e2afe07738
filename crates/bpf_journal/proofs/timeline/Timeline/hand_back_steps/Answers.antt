use Rattle.std.proofs.Common.{[], map, subst}
use Rattle.bpf_journal.specs.GoingBack.{made_of}
use Rattle.bpf_journal.proofs.GoingBack.{history_back, kept_made, way_of}
use Rattle.bpf_journal.proofs.timeline.Timeline.hand_back_steps.Goals as goal

pub invariant_of-self : goal.invariant_of-self
invariant_of-self g c =
    let i = c.self.invariant in
    history_back g.K.Keeper.holds c.args.marks.now c.args.stays c.hand_back_steps.new.self c.hand_back_steps.new.cpu _ c.hand_back_steps.result i.history [] c.self.inside.cpu i.stands.1
    (c.hand_back_steps.ensures.handed (map made_of i.history) [] (subst (g.K.Keeper.holds c.self.inside.keeper) (kept_made i.history) i.stands.0) (way_of i.history c.self.inside.cpu i.stands.1))

pub returns-clause-handed : goal.returns-clause-handed
returns-clause-handed g c = λ h ls stands.
    let inside = rw (← c.self.view_is) at stands in
    rw (← c.self.view_is) (c.hand_back_steps.ensures.handed (map made_of h) ls (subst (g.K.Keeper.holds c.self.inside.keeper) (kept_made h) inside.0) (way_of h c.self.inside.cpu inside.1))
