use Rattle.bpf_session.proofs.WholeScripts.{each-move-is-kept, no-answer-is-of-memory}
use Rattle.bpf_session.proofs.laws.no_answer_is_of_memory.Goals as goal

pub returns-clause-answer : goal.returns-clause-answer
returns-clause-answer g c = no-answer-is-of-memory g.K.Keeper.holds g.K.Keeper.refused g.K.Keeper.room

pub returns-clause-meaning : goal.returns-clause-meaning
returns-clause-meaning g c = each-move-is-kept g.K.Keeper.holds g.K.Keeper.refused g.K.Keeper.room
