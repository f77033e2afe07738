use Rattle.std.proofs.Common.{refl, sym, subst}
use Rattle.bpf_machine.specs.declared.moves.Move.TheVariants as move
use Rattle.bpf_entries.specs.Fields.{FitsFields}
use Rattle.bpf_steps.specs.Next.{next}
use Rattle.bpf_journal.proofs.keeper.Keeper.record.Goals as goal

pub push-requires : goal.push-requires
push-requires g c =
    subst FitsFields (sym c.entry-entry.ensures)
    (c.entries_fit.ensures c.args.cpu.now (next c.args.cpu.now) move.Step (record { before = c.invariant.ensures; movable = c.requires.runs; after = refl }) tt)
