use Rattle.std.proofs.Common.{◌≡◌, ◌+◌, ◌-◌, ◌∙◌, ◌++◌, ℕ, Bool, true, false, List, [], ◌∷◌, length, drop, refl, sym, ap, arith}
use Rattle.std.specs.Prelude.{if◌then◌else◌, is_some}
use Rattle.std.proofs.lemmas.List.Elements.{All-cons, All-nil}
use Rattle.bpf_entries.proofs.Texts.{length-text}
use Rattle.bpf_entries.specs.Fields.{FitsFields}
use Rattle.bpf_entries.specs.Keeping.{Kept}
use Rattle.bpf_entries.specs.Past.{replaced}
use Rattle.bpf_entries.specs.Status.{has_ended}
use Rattle.bpf_entries.specs.Texts.{text}
use Rattle.bpf_machine.specs.declared.moves.Move.TheVariants as move
use Rattle.bpf_steps.specs.Entries.{entry_of, step_entry}
use Rattle.bpf_steps.specs.Next.{next}
use Rattle.bpf_steps.specs.declared.change.Change.{Change}
use Rattle.bpf_ring.proofs.Edges.{plain_steps, written_over}
use Rattle.bpf_ring.proofs.keeper.RingKeeper.step_over.Goals as goal

pub record-requires-clause-can : goal.record-requires-clause-can
record-requires-clause-can g c = record {
  runs = c.requires.runs;
  looked = c.look_on-change.ensures;
  entry = c.entries_fit.ensures c.args.cpu.now (next c.args.cpu.now) move.Step (record { before = c.invariant.ensures; movable = c.requires.runs; after = refl }) tt;
  weight = c.entry_weight-weight.ensures.value;
  light = c.entry_weight-weight.ensures.fits;
}

pub returns : goal.returns
returns g c =
    let test = g.T.StopTest.test c.args.test.now in
    let x = c.args.cpu.now in
    let y = c.record.new.cpu in
    let old = c.args.self.now in
    let w = c.entry_weight-weight.result in
    let e : Kept = (step_entry x, false) in
    let t : List ℕ = text (step_entry x) false in
    let fits : FitsFields (step_entry x) = c.entries_fit.ensures x (next x) move.Step (record { before = c.invariant.ensures; movable = c.requires.runs; after = refl }) tt in
    let long : length t ≡ w = length-text (step_entry x) false fits ∙ sym c.entry_weight-weight.ensures.value in
    record {
      leads = record { before = c.invariant.ensures; movable = c.requires.runs; after = c.record.ensures.next };
      stops =
          c.stops.ensures
          ∙ ap (λ (r : Bool). if has_ended y.status then true else test r y)
          (c.change_replaces_bytes-replaced.ensures x ∙ ap (λ (d : Change). is_some (replaced 0 (entry_of x d))) c.look_on-change.ensures);
      size = c.record.ensures.size ∙ c.make_way.ensures.size;
      held = λ ks r.
          written_over old.ring c.record.new.self old.counts c.make_way.new.self.counts (e ∷ []) ks t r (All-cons (λ (k : Kept). FitsFields k.0) e [] fits (All-nil (λ (k : Kept). FitsFields k.0))) (plain_steps 1 x) refl
          (omega (arith, long, c.make_way.ensures.within, c.make_way.ensures.size)) (c.record.ensures.size ∙ c.make_way.ensures.size) c.make_way.ensures.counts
          (c.record.ensures.bytes
          ∙ ap (λ (l : List ℕ). l ++ t) (c.make_way.ensures.bytes ∙ ap (λ (n : ℕ). drop (length old.ring.bytes + n - old.ring.size) old.ring.bytes) (sym long)));
    }
