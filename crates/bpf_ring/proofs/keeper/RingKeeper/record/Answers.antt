use Rattle.std.proofs.Common.{◌≡◌, ◌≤◌, ◌-◌, ◌∙◌, refl, subst, arith}
use Rattle.bpf_entries.specs.Keeping.{kept_weight, fit}
use Rattle.bpf_entries.specs.Fields.{FitsFields}
use Rattle.bpf_entries.specs.Texts.{text}
use Rattle.bpf_entries.specs.Weights.{weight}
use Rattle.bpf_machine.specs.declared.moves.Move.TheVariants as move
use Rattle.bpf_steps.specs.Entries.{step_entry}
use Rattle.bpf_steps.specs.Next.{next}
use Rattle.bpf_ring.specs.Held.{IsHeld}
use Rattle.bpf_ring.proofs.keeper.RingKeeper.record.Goals as goal
use Rattle.bpf_ring.proofs.Held.{appended, few_held, kept_more, of_a_step}

pub record-requires-clause-can : goal.record-requires-clause-can
record-requires-clause-can c = record {
  runs = c.requires.runs;
  looked = c.requires.looked;
  entry = c.entries_fit.ensures c.args.cpu.now (next c.args.cpu.now) move.Step (record { before = c.invariant.ensures; movable = c.requires.runs; after = refl }) tt;
  weight = c.entry_weight-weight.ensures.value;
  light = c.entry_weight-weight.ensures.fits;
}

pub returns : goal.returns
returns c =
    let x = c.args.cpu.now in
    let e = step_entry x in
    let m = c.args.mark in
    let size = c.args.self.now.ring.size in
    let mid = c.make_room.new.self in
    let new = c.record.new.self in
    let w = c.entry_weight-weight.result in
    let weigh : w ≡ weight e = c.entry_weight-weight.ensures.value in
    let fits : FitsFields e = c.entries_fit.ensures x (next x) move.Step (record { before = c.invariant.ensures; movable = c.requires.runs; after = refl }) tt in
    let large : 1024 ≤ size = omega (arith, c.make_room.ensures.sized.0, c.make_room.ensures.size) in
    record {
      next = c.record.ensures.next;
      size = c.record.ensures.size ∙ c.make_room.ensures.size;
      held = λ ks held.
          let front = fit kept_weight (size - weight e) ks in
          let kept : IsHeld mid.ring mid.counts front = subst (λ n. IsHeld mid.ring mid.counts (fit kept_weight (size - n) ks)) weigh (c.make_room.ensures.held ks held) in
          let few = few_held mid.ring mid.counts mid.ring.size w front c.make_room.ensures.within (omega (arith, c.make_room.ensures.sized.1)) kept in
          kept_more size new c.add.new.self ks e m large fits
          (appended mid.ring new mid.counts c.add.new.self front e m (text e m) kept fits refl c.record.ensures.bytes (c.add.ensures front e kept.counted few (of_a_step x)));
    }
