use Rattle.std.proofs.Common.{arith}
use Rattle.bpf_journal.proofs.Items.{lighter}
use Rattle.bpf_journal.proofs.list_keeper.ListKeeperKeeper.pop.Goals as goal

pub invariant_of-self-clause-within : goal.invariant_of-self-clause-within
invariant_of-self-clause-within c = omega (arith, lighter _ _ _ c.pop.ensures, c.args.self.now.within)
