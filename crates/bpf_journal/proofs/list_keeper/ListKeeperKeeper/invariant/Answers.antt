use Rattle.std.proofs.Common.{List, subst, sym}
use Rattle.bpf_entries.specs.Keeping.{Kept}
use Rattle.bpf_journal.specs.Keepers.{IsWithin}
use Rattle.bpf_journal.proofs.list_keeper.ListKeeperKeeper.invariant.Goals as goal

pub returns : goal.returns
returns c = λ es same.
    let keeper = c.args.self.now in
    subst (λ (xs : List Kept). IsWithin keeper.size xs) (sym same) (record { size = keeper.is_size; weighs = keeper.within })
