use Rattle.std.proofs.Common.{sym, ◌∙◌}
use Rattle.bpf_session.proofs.Accepting.{none-first, refused_obeys}
use Rattle.bpf_session.proofs.session.Session.apply.Goals as goal

pub accept-requires : goal.accept-requires
accept-requires g c = λ h past. none-first _ (sym c.in-None.is ∙ c.refusal.ensures h past)

pub returns-in-Some : goal.returns-in-Some
returns-in-Some g c =
    let i = c.invariant.ensures in
    refused_obeys g.K.Keeper.holds g.K.Keeper.refused g.K.Keeper.room _ c.args.command.now _ _ (λ h past. sym c.in-Some.is ∙ c.refusal.ensures h past) i.track i.follows
