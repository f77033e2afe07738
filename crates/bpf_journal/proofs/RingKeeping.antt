-- A ring keeper takes the newest move back as the keepers' definition has it.
use Rattle.std.proofs.Common.{◌≡◌, ℕ, List, [], ◌∷◌, Bool, Option, Some, None, map, refl, sym, ap, subst, ◌∙◌}
use Rattle.bpf_machine.specs.declared.moves.Move.{Move}
use Rattle.bpf_machine.specs.Moves.{Leads, overwritten}
use Rattle.bpf_steps.specs.State.{State}
use Rattle.bpf_entries.specs.declared.entry.Entry.{Entry}
use Rattle.bpf_entries.specs.Keeping.{Kept}
use Rattle.bpf_entries.specs.Texts.{kind, tag}
use Rattle.bpf_ring.specs.Blocks.{Content}
use Rattle.bpf_ring.specs.Held.{HoldsWay, IsHeld}
use Rattle.bpf_ring.specs.declared.counts.Counts.{Counts}
use Rattle.bpf_journal.specs.Histories.{IsRun, Record, StandsFor, kept_of}
use Rattle.bpf_journal.specs.TakingBack.{TakesBack, taken_by}
use Rattle.bpf_journal.specs.declared.taken.Taken.{Taken}
use Rattle.bpf_journal.proofs.Histories.{told}

-- A ring that stands for a history holds the way that led to its state.
pub holds_way : (content : Content) (counts : Counts) (y : State) (h : List Record) → IsHeld content counts (map kept_of h) → IsRun h y → HoldsWay content counts y
holds_way content counts y [] held run = record { ks = []; held = held; led = tt }
holds_way content counts y (r ∷ h) held run = record {
  ks = map kept_of (r ∷ h);
  held = held;
  led = record { x = r.before; m = r.move; leads = run.0; held = refl };
}

abbrev nothing : Option ℕ
nothing = None

module _ {K : Type 0} (holds : K → List Kept → Type 0) where
  pub some_back : (h : List Record) (old new : K) (y z : State) (number : ℕ) (taken : Taken)
      → (holds old [] → (Some number ≡ None) × (z ≡ y) × holds new [])
      → ((ks : List Kept) (k : Kept) → holds old (k ∷ ks) → (Some number ≡ Some (tag (kind k.0) k.1)) × holds new ks)
      → ((ks : List Kept) (k : Kept) (x : State) (m : Move) → holds old (k ∷ ks) → Leads x m y → overwritten x m ≡ k.0 → z ≡ x)
      → ((entry : Entry) (mark : Bool) → number ≡ tag (kind entry) mark → taken ≡ taken_by (entry, mark))
      → StandsFor holds old y h → TakesBack holds (Some taken) h y new z
  some_back [] old new y z number taken none some back by stands = let is : Some number ≡ None = (none stands.0).0 in absurd cc
  some_back (r ∷ h) old new y z number taken none some back by stands =
      let k : Kept = kept_of r in
      let after = some (map kept_of h) k stands.0 in
      let is : number ≡ tag (kind k.0) k.1 = cc in
      let same : z ≡ r.before = back (map kept_of h) k r.before r.move stands.0 stands.1.0 refl in
      (ap Some (by k.0 k.1 is ∙ told r), same, (after.1, subst (IsRun h) (sym same) stands.1.1))

  pub none_back : (h : List Record) (old new : K) (y z : State)
      → (holds old [] → (nothing ≡ None) × (z ≡ y) × holds new [])
      → ((ks : List Kept) (k : Kept) → holds old (k ∷ ks) → (nothing ≡ Some (tag (kind k.0) k.1)) × holds new ks)
      → StandsFor holds old y h → TakesBack holds None h y new z
  none_back [] old new y z none some stands = let after = none stands.0 in (refl, after.1, (after.2, tt))
  none_back (r ∷ h) old new y z none some stands = let is : nothing ≡ Some (tag (kind (kept_of r).0) (kept_of r).1) = (some (map kept_of h) (kept_of r) stands.0).0 in absurd cc
