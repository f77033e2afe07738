use Rattle.std.proofs.Common.{◌≡◌, ◌∙◌, ap, false, refl, rules}
use Rattle.std.specs.Prelude.{is_some}
use Rattle.bpf_entries.specs.Past.{replaced}
use Rattle.bpf_steps.specs.Entries.{entry_of}
use Rattle.bpf_machine.specs.declared.moves.Move.TheVariants as move
use Rattle.bpf_machine.specs.Moves.{Leads}
use Rattle.bpf_entries.specs.Status.{has_ended}
use Rattle.bpf_journal.proofs.Histories.{kept_history, makes}
use Rattle.bpf_journal.proofs.timeline.Timeline.step.Goals as goal

pub invariant_of-self-2 : goal.invariant_of-self-2
invariant_of-self-2 g c =
    let runs : has_ended c.self.inside.cpu.status ≡ false = search rules in
    let leads : Leads c.self.inside.cpu move.Step c.record.new.cpu = record { before = c.invariant.ensures; movable = runs; after = c.in-Ok-record.ensures.stepped } in
    kept_history g.K.Keeper.holds _ _ _ _ _ move.Step _ _ leads refl c.in-Ok-record.ensures.kept.ok c.self.invariant

pub returns : goal.returns
returns g c =
    let runs : has_ended c.self.inside.cpu.status ≡ false = search rules in
    let leads : Leads c.self.inside.cpu move.Step c.record.new.cpu = record { before = c.invariant.ensures; movable = runs; after = c.in-Ok-record.ensures.stepped } in
    rw (← c.self.view_is) (record {
      ok = makes g.K.Keeper.holds _ _ _ _ _ move.Step _ _ leads refl c.in-Ok-record.ensures.kept.ok;
      err = tt;
      bytes = c.change_replaces_bytes.ensures c.self.inside.cpu ∙ ap (λ change. is_some (replaced 0 (entry_of c.self.inside.cpu change))) c.in-Ok.ensures.ok;
      refused = c.in-Ok-record.ensures.kept.refused;
      room = c.in-Ok-record.ensures.kept.room;
    })
