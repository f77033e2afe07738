use Rattle.std.proofs.Common.{sym}
use Rattle.bpf_journal.proofs.Histories.{newest_came, goes_back}
use Rattle.bpf_journal.proofs.keeper.Keeper.take_back.Goals as goal

pub revert-requires : goal.revert-requires
revert-requires g c =
    let i = c.requires.way in
    newest_came i.history _ _ (sym (c.in-Some.ensures.taken _ i.stands.0).0) i.stands.1

pub returns-in-Some-clause-back : goal.returns-in-Some-clause-back
returns-in-Some-clause-back g c = λ h stands.
    let t = c.in-Some.ensures.taken _ stands.0 in
    goes_back g.Self.Keeper.holds h _ _ _ _ _ (sym t.0) c.of.ensures stands.1 t.1 c.revert.ensures
