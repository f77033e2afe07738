-- A move that wrote no wanted place, as what it touched tells it.
use Rattle.std.proofs.Common.{◌≡◌, ℕ, Bool, true, false, List, [], ◌∷◌, length, not, Option, Some, refl, sym, ap, ◌∙◌}
use Rattle.std.specs.Prelude.{◌||◌, if◌then◌else◌, map, unwrap_or}
use Rattle.bpf_entries.specs.declared.entry.Entry.{Entry}
use Rattle.bpf_entries.specs.declared.entry.Entry.TheVariants as entry
use Rattle.bpf_entries.specs.Past.{past}
use Rattle.bpf_machine.specs.Moves.{overwritten}
use Rattle.bpf_steps.specs.State.{State, depth}
use Rattle.bpf_ring.specs.Touched.{newest_touched, touched_by}
use Rattle.bpf_ring.specs.declared.touched.Touched.{Touched}
use Rattle.bpf_ring.specs.declared.touched.Touched.TheVariants as touched
use Rattle.bpf_journal.specs.Histories.{Record, kept_of}
use Rattle.bpf_journal.specs.Tracks.{Track}
use Rattle.bpf_origin.specs.declared.place.Part.{Part}
use Rattle.bpf_origin.specs.declared.place.Place.{Place}
use Rattle.bpf_origin.specs.Places.{has}
use Rattle.bpf_origin.specs.Pasts.{StandsThere, stand}
use Rattle.bpf_origin.specs.Turns.{PassesOver, parts_of}
use Rattle.bpf_origin.specs.Wanted.{are_hit, carried, handed, is_among, spared}
use Rattle.bpf_origin.specs.Writes.{written}

-- What was touched is what was written.
pub parts_are : (y : State) (e : Entry) → parts_of (depth y) (length y.trace) (touched_by (depth y) e) ≡ written y e
parts_are y (entry.Register pc r x) = refl
parts_are y (entry.Jump pc) = refl
parts_are y (entry.Call pc old) = refl
parts_are y (entry.Return pc saved) = refl
parts_are y (entry.Store pc a old) = refl
parts_are y (entry.Fetch pc r x a old) = refl
parts_are y (entry.Cell pc x a old) = refl
parts_are y (entry.Trace pc x) = refl
parts_are y entry.End = refl
parts_are y (entry.EditRegister r x) = refl
parts_are y (entry.EditBytes a old) = refl
parts_are y (entry.EditPc pc st) = refl

-- Nothing hits no place; two parts hit one where either does.
pub none_hit : (ws : List Place) → are_hit [] ws ≡ false
none_hit [] = refl
none_hit (w ∷ ws) = none_hit ws

one_more : (a b c d : Bool) → ((a || (b || false)) || (c || d)) ≡ (((a || false) || c) || ((b || false) || d))
one_more true b c d = refl
one_more false true true d = refl
one_more false true false d = refl
one_more false false true d = refl
one_more false false false d = refl

two_hit : (p q : Part) (ws : List Place) → are_hit (p ∷ q ∷ []) ws ≡ (are_hit (p ∷ []) ws || are_hit (q ∷ []) ws)
two_hit p q [] = refl
two_hit p q (w ∷ ws) =
    ap (λ (b : Bool). (has p w || (has q w || false)) || b) (two_hit p q ws)
    ∙ one_more (has p w) (has q w) (are_hit (p ∷ []) ws) (are_hit (q ∷ []) ws)

pub first_hits : (p q : Part) (ws : List Place) (b : Bool) → b ≡ are_hit (p ∷ []) ws → b ≡ true → b ≡ are_hit (p ∷ q ∷ []) ws
first_hits p q ws b is hits = hits ∙ sym (two_hit p q ws ∙ ap (λ (c : Bool). c || are_hit (q ∷ []) ws) (sym is ∙ hits))

pub second_tells : (p q : Part) (ws : List Place) (b c : Bool) → b ≡ are_hit (p ∷ []) ws → b ≡ false → c ≡ are_hit (q ∷ []) ws → c ≡ are_hit (p ∷ q ∷ []) ws
second_tells p q ws b c is misses also = also ∙ sym (two_hit p q ws ∙ ap (λ (a : Bool). a || are_hit (q ∷ []) ws) (sym is ∙ misses))

pub hit_as : (d n : ℕ) (t u : Touched) (ws : List Place) (b : Bool) → t ≡ u → b ≡ are_hit (parts_of d n u) ws → b ≡ are_hit (parts_of d n t) ws
hit_as d n t u ws b is hits = hits ∙ ap (λ (v : Touched). are_hit (parts_of d n v) ws) (sym is)

-- What wasn't hit stays.
pub all_spared : (ps : List Part) (ws : List Place) → are_hit ps ws ≡ false → spared ps ws ≡ ws
all_spared ps [] missed = refl
all_spared ps (w ∷ ws) missed = one (is_among ps w) (are_hit ps ws) missed (all_spared ps ws)
  where
    one : (b c : Bool) → (b || c) ≡ false → (c ≡ false → spared ps ws ≡ ws) → (if not b then w ∷ spared ps ws else spared ps ws) ≡ w ∷ ws
    one true c missed rest = cc
    one false c missed rest = ap (λ (l : List Place). w ∷ l) (rest missed)

-- Before a call alone it is carried over.
abbrev pub is_frame : Touched → Bool
is_frame (touched.Frame a n) = true
is_frame _ = false

abbrev pub carried_by : Bool → ℕ → List Place → List Place
carried_by b d ws = if b then handed d 9 (handed d 8 (handed d 7 (handed d 6 ws))) else ws

pub carried_is : (e : Entry) (d : ℕ) (ws : List Place) → carried_by (is_frame (touched_by d e)) d ws ≡ carried (past d e).frames d ws
carried_is (entry.Register pc r x) d ws = refl
carried_is (entry.Jump pc) d ws = refl
carried_is (entry.Call pc old) d ws = refl
carried_is (entry.Return pc saved) d ws = refl
carried_is (entry.Store pc a old) d ws = refl
carried_is (entry.Fetch pc r x a old) d ws = refl
carried_is (entry.Cell pc x a old) d ws = refl
carried_is (entry.Trace pc x) d ws = refl
carried_is entry.End d ws = refl
carried_is (entry.EditRegister r x) d ws = refl
carried_is (entry.EditBytes a old) d ws = refl
carried_is (entry.EditPc pc st) d ws = refl

-- What the newest move touched.
pub touched_is : (d : ℕ) (o : Option Touched) (t : Touched) (r : Record) (h : List Record) → o ≡ Some t → o ≡ newest_touched d (map kept_of (r ∷ h)) → t ≡ touched_by d (overwritten r.before r.move)
touched_is d o t r h is was = ap (λ (p : Option Touched). unwrap_or p touched.Nothing) (sym is ∙ was)

module _ {P : Type 0} (state : P → State) (follows : P → Track → Type 0) where
  pub passes : (wanted left : List Place) (r : Record) (h f : List Record) (y : State) (new : P) (t : Touched)
      → t ≡ touched_by (depth y) (overwritten r.before r.move)
      → are_hit (parts_of (depth y) (length y.trace) t) wanted ≡ false
      → ((e : Entry) → t ≡ touched_by (depth y) e → left ≡ carried (past (depth y) e).frames (depth y) wanted)
      → StandsThere state follows new (stand h (r ∷ f) r.before)
      → PassesOver state follows wanted left r h f y new
  passes wanted left r h f y new t is unfound carries back =
      let e = overwritten r.before r.move in
      let wrote : written y e ≡ parts_of (depth y) (length y.trace) t = sym (ap (parts_of (depth y) (length y.trace)) is ∙ parts_are y e) in
      let missed : are_hit (written y e) wanted ≡ false = ap (λ (ps : List Part). are_hit ps wanted) wrote ∙ unfound in
      record {
        missed = missed;
        still = carries e is ∙ ap (λ (ws : List Place). carried (past (depth y) e).frames (depth y) ws) (sym (all_spared (written y e) wanted missed));
        back = back;
      }
