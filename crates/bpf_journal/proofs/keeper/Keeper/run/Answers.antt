use Rattle.std.proofs.Common.{◌==◌, ◌∙◌, true, if◌then◌else◌, sym, ap, subst, refl}
use Rattle.std.specs.Prelude.{is_some}
use Rattle.bpf_entries.specs.Keeping.{keep, kept_weight}
use Rattle.bpf_entries.specs.Past.{replaced}
use Rattle.bpf_entries.specs.Status.{has_ended}
use Rattle.bpf_machine.specs.declared.moves.Move.TheVariants.{Step}
use Rattle.bpf_steps.specs.Entries.{entry_of, step_entry}
use Rattle.bpf_machine.specs.Moves.{Leads}
use Rattle.bpf_ring.specs.Runs.{kept_after}
use Rattle.bpf_ring.proofs.Runs.{kept_more, run_stops, running_more, runs_on}
use Rattle.bpf_journal.proofs.keeper.Keeper.run.Goals as goal

pub returns-then-stops : goal.returns-then-stops
returns-then-stops g c =
    let i = c.loop-k.invariant in
    let k = c.loop-k.k in
    let x = c.args.cpu.now in
    let y = c.loop-k.cpu in
    let z = c.record.new.cpu in
    let new = c.record.new.self in
    let room = g.Self.Keeper.room c.args.self.now in
    let leads : Leads y Step z = record { before = c.invariant.ensures; movable = i.runs; after = c.in-Ok-record.ensures.stepped } in
    let replaced_bytes = c.change_replaces_bytes-replaced.ensures y ∙ ap (λ change. is_some (replaced 0 (entry_of y change))) c.in-Ok.ensures.ok in
    record {
      ends =
          run_stops (g.T.StopTest.test c.args.test.now) c.args.most k x y z i.running leads c.loop-k-test.true
          (sym c.if-stops.true ∙ c.stops.ensures ∙ ap (λ b. if has_ended z.status then true else g.T.StopTest.test c.args.test.now b z) replaced_bytes);
      kept = λ es held.
          subst (g.Self.Keeper.holds new) (kept_more room k x y (k == 0) es i.running.state refl)
          (subst (λ n. g.Self.Keeper.holds new (keep kept_weight n (kept_after room k x es) (step_entry y, k == 0))) i.room (c.in-Ok-record.ensures.kept.ok (kept_after room k x es) (i.held es held)));
      refused = c.in-Ok-record.ensures.kept.refused ∙ i.refused;
      room = c.in-Ok-record.ensures.kept.room ∙ i.room;
    }

pub loop-k-preserved : goal.loop-k-preserved
loop-k-preserved g c =
    let i = c.loop-k.invariant in
    let k = c.loop-k.k in
    let x = c.args.cpu.now in
    let y = c.loop-k.cpu in
    let z = c.record.new.cpu in
    let new = c.record.new.self in
    let room = g.Self.Keeper.room c.args.self.now in
    let leads : Leads y Step z = record { before = c.invariant.ensures; movable = i.runs; after = c.in-Ok-record.ensures.stepped } in
    let replaced_bytes = c.change_replaces_bytes-replaced.ensures y ∙ ap (λ change. is_some (replaced 0 (entry_of y change))) c.in-Ok.ensures.ok in
    let quiet = sym c.if-stops.false ∙ c.stops.ensures ∙ ap (λ b. if has_ended z.status then true else g.T.StopTest.test c.args.test.now b z) replaced_bytes in
    record {
      runs = runs_on (has_ended z.status) _ quiet;
      running = running_more (g.T.StopTest.test c.args.test.now) k x y z i.running leads quiet;
      held = λ es held.
          subst (g.Self.Keeper.holds new) (kept_more room k x y (k == 0) es i.running.state refl)
          (subst (λ n. g.Self.Keeper.holds new (keep kept_weight n (kept_after room k x es) (step_entry y, k == 0))) i.room (c.in-Ok-record.ensures.kept.ok (kept_after room k x es) (i.held es held)));
      refused = c.in-Ok-record.ensures.kept.refused ∙ i.refused;
      room = c.in-Ok-record.ensures.kept.room ∙ i.room;
    }
