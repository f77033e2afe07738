use Rattle.bpf_journal.proofs.Walks.{told_by_walk}
use Rattle.bpf_journal.proofs.keeper.Keeper.byte_before.Goals as goal

pub returns-in-Some : goal.returns-in-Some
returns-in-Some g c = λ newer front held here.
    told_by_walk g.Self.Keeper.place c.args.self.now front _ _ _ _ _ _ _ _ (rw c.in-Some.is at (c.walk_back.ensures newer front held here)) c.byte_before.ensures c.depth_before.ensures
