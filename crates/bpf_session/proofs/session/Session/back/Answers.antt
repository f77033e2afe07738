use Rattle.bpf_session.proofs.Backwards.{back_obeys}
use Rattle.bpf_session.proofs.session.Session.back.Goals as goal

pub returns : goal.returns
returns g c =
    rw c.why_back.ensures (back_obeys g.K.Keeper.holds g.K.Keeper.refused g.K.Keeper.room _ _ c.args.target c.count_of-count.result c.back_to-found.result
    c.count_of-count.ensures.value c.back_to-found.ensures.back c.back_to-found.ensures.refused c.back_to-found.ensures.bounds)
