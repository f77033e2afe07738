use Rattle.bpf_origin.proofs.Backs.{timeline_back}
use Rattle.bpf_origin.proofs.past.TimelinePast.take_back.Goals as goal

pub returns-clause-back : goal.returns-clause-back
returns-clause-back g c = λ t stands. timeline_back g.K.Keeper.holds _ t.history t.ahead _ _ (c.back.ensures.back t.history stands)

pub returns-clause-keeper : goal.returns-clause-keeper
returns-clause-keeper g c = record { room = c.back.ensures.room; refused = c.back.ensures.refused }
