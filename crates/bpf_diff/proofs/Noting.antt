-- The notes of the last writers, step by step.
use Rattle.std.proofs.Common.{◌≡◌, ◌≢◌, ◌+◌, ◌-◌, ◌*◌, ◌<◌, ◌≤◌, ℕ, Bool, true, false, List, [], ◌∷◌, length, get_or, set, nat_lt, nat_le, Option, Some, None, refl, sym, ap, ap₂, ◌∙◌, arith, inl, inr}
use Rattle.std.specs.Prelude.{◌&&◌, ◌||◌, ◌==◌, if◌then◌else◌}
use Rattle.std.specs.List.{list_any}
use Rattle.std.specs.Option.{option_map_or}
use Rattle.std.proofs.lemmas.Bool.{cases_eq, cases_lt}
use Rattle.std.proofs.lemmas.Bool.Decides.{nat_tests}
use Rattle.std.proofs.lemmas.List.{get_or-set_other, length-append}
use Rattle.std.proofs.lemmas.Grind.{get_or-set_at}
use Rattle.bpf_steps.specs.Calls.{frame_of}
use Rattle.bpf_steps.specs.Entries.{entry_of, step_entry}
use Rattle.bpf_steps.specs.Fetched.{Fits}
use Rattle.bpf_steps.specs.Next.{change, changed, next}
use Rattle.bpf_steps.specs.State.{State, depth}
use Rattle.bpf_steps.specs.declared.change.Change.{Change}
use Rattle.bpf_steps.specs.declared.change.Change.TheVariants.{Set, Go, Store, Fetch, Call, Return, Cell, Trace, Stop}
use Rattle.bpf_machine.proofs.Fitting.{change_fits}
use Rattle.bpf_origin.specs.Places.{depth_for, has}
use Rattle.bpf_origin.specs.Writes.{came_from, writes}
use Rattle.bpf_origin.specs.declared.place.Place.{Place}
use Rattle.bpf_origin.specs.declared.place.Place.TheVariants as place
use Rattle.bpf_trace.specs.Taken.{Took, parts_by}
use Rattle.bpf_trace.specs.declared.taken.Taken.{Taken}
use Rattle.bpf_trace.proofs.Steps.{step_wrote}
use Rattle.bpf_diff.specs.Noted.{AreNotes, calls, note_at, register_of}
use Rattle.bpf_diff.specs.Writers.{last_step, last_writer, no_step}
use Rattle.bpf_diff.specs.declared.told_writers.Writer.{Writer}

-- whether it writes a register
or-false : (b : Bool) → (b || false) ≡ b
or-false true = refl
or-false false = refl

abbrev hits : State → Option ℕ → ℕ → ℕ → Bool
hits y w e s = option_map_or (λ r. depth_for (depth y) r == e && (r == s)) w false

parts-at : (y : State) (c : Change) (e s : ℕ) → list_any (λ q. has q (place.Register e s)) (parts_by y c) ≡ hits y (register_of c) e s
parts-at y (Set r value after) e s = or-false _
parts-at y (Go after) e s = refl
parts-at y (Store a at size value after) e s = refl
parts-at y (Fetch a at size value r after) e s = or-false _
parts-at y (Call to) e s = refl
parts-at y Return e s = refl
parts-at y (Cell a from n after) e s = or-false _
parts-at y (Trace word after) e s = or-false _
parts-at y (Stop status) e s = refl

-- where the value of a register was before it
came-same : (x y : State) (c : Change) (e s : ℕ) → calls c ≡ false → came_from y (entry_of x c) (place.Register e s) ≡ place.Register e s
unfolding entry_of
came-same x y (Set r value after) e s isnt = refl
came-same x y (Go after) e s isnt = refl
came-same x y (Store a at size value after) e s isnt = refl
came-same x y (Fetch a at size value r after) e s isnt = refl
came-same x y (Call to) e s isnt = absurd cc
came-same x y Return e s isnt = refl
came-same x y (Cell a from n after) e s isnt = refl
came-same x y (Trace word after) e s isnt = refl
came-same x y (Stop status) e s isnt = refl

came-call : (x y : State) (to e s : ℕ) → came_from y (entry_of x (Call to)) (place.Register e s)
    ≡ (if e == depth y then place.Register (depth y - 1) s else place.Register e s)
unfolding entry_of
came-call x y to e s = refl

-- notes lie apart
small : (d s : ℕ) (b : Bool) → d < 8 → s < 10 → (if b then 0 else d) * 10 + s < 80
small d s true low reg = omega (arith, reg)
small d s false low reg = omega (arith, low, reg)

pub within : (d s : ℕ) → d < 8 → s < 10 → note_at (depth_for d s) s < 80
within d s low reg = small d s (nat_lt s 6) low reg

no-other : (p q : Bool) → q ≡ false → (p && q) ≡ false
no-other true q e = e
no-other false q e = refl

same-note : (e f r s : ℕ) → s < 10 → (nat_lt r 10 && e * 10 + s == f * 10 + r) ≡ (f == e && (r == s))
same-note e f r s reg = elim (cases_lt r 10) [
  | inl below ↦
      let t : nat_lt r 10 ≡ true = grind (arith, nat_tests, below) in
      elim (cases_eq r s) [
        | inl one ↦
            let u : (r == s) ≡ true = grind (arith, nat_tests, one) in
            elim (cases_eq f e) [
              | inl two ↦
                  let v : (f == e) ≡ true = grind (arith, nat_tests, two) in
                  let w : (e * 10 + s == f * 10 + r) ≡ true = grind (arith, nat_tests, one, two) in
                  rw (t, u, v, w) refl
              | inr two ↦
                  let v : (f == e) ≡ false = grind (arith, nat_tests, two) in
                  let apart : e * 10 + s ≢ f * 10 + r = λ is. two (omega (arith, is, one)) in
                  let w : (e * 10 + s == f * 10 + r) ≡ false = grind (arith, nat_tests, apart) in
                  rw (t, u, v, w) refl
            ]
        | inr one ↦
            let u : (r == s) ≡ false = grind (arith, nat_tests, one) in
            let apart : e * 10 + s ≢ f * 10 + r = λ is. one (omega (arith, is, reg, below)) in
            let w : (e * 10 + s == f * 10 + r) ≡ false = grind (arith, nat_tests, apart) in
            rw (t, w) (sym (no-other (f == e) (r == s) u))
      ]
  | inr past ↦
      let t : nat_lt r 10 ≡ false = grind (arith, nat_tests, past) in
      let u : (r == s) ≡ false = grind (arith, nat_tests, past, reg) in
      rw t (sym (no-other (f == e) (r == s) u))
]

same-notes : (y : State) (w : Option ℕ) (e s : ℕ) → s < 10
    → option_map_or (λ r. nat_lt r 10 && note_at e s == note_at (depth_for (depth y) r) r) w false ≡ hits y w e s
same-notes y None e s reg = refl
same-notes y (Some r) e s reg = same-note e (depth_for (depth y) r) r s reg

-- a step by its number and its slot
abbrev pub step_at : ℕ → ℕ → Writer
step_at number slot = record { step = number; slot = slot }

-- the notes behind a change, at each place
abbrev pub noted_by : State → Option ℕ → Writer → List Writer → ℕ → Writer
noted_by y w newest old i =
    if option_map_or (λ r. nat_lt r 10 && i == note_at (depth_for (depth y) r) r) w false then newest else get_or old i no_step

abbrev pub handed_by : ℕ → List Writer → ℕ → Writer
handed_by d old i = if nat_le (d * 10 + 6) i && nat_lt i (d * 10 + 10) then get_or old (i - 10) no_step else get_or old i no_step

-- the depth behind a call
call-depth : (x y : State) (to : ℕ) → y ≡ changed x (Call to) → depth y ≡ depth x + 1
unfolding changed
call-depth x y to e = ap (λ (z : State). depth z) e ∙ length-append x.frames (frame_of x (x.pc + 1) ∷ [])

module _ (before : List State) (x y : State) (taken : Taken) (t : Took x y taken) (old : List Writer) (previous : Writer)
    (notes : AreNotes before old previous) (number : ℕ) (counts : (last_step (x ∷ before)).step ≡ number) where
  abbrev pub newest : Writer
  newest = step_at number taken.slot

  newest-is : newest ≡ last_step (x ∷ before)
  newest-is = ap₂ step_at (sym counts) t.slot

  writer-is : (c : Change) → taken.change ≡ c → (e s : ℕ) → last_writer (x ∷ before) (place.Register e s)
      ≡ (if hits y (register_of c) e s then last_step (x ∷ before) else last_writer before (came_from y (entry_of x c) (place.Register e s)))
  writer-is c is e s =
      let p = place.Register e s in
      let same : change x ≡ c = sym t.change ∙ is in
      let wrote : writes (next x) (step_entry x) p ≡ hits y (register_of c) e s =
      ap (λ (z : State). writes z (step_entry x) p) (sym t.next)
      ∙ ap (list_any (λ q. has q p)) (step_wrote x y t.is)
      ∙ ap (λ (k : Change). list_any (λ q. has q p) (parts_by y k)) same
      ∙ parts-at y c e s in
      let came : came_from (next x) (step_entry x) p ≡ came_from y (entry_of x c) p =
      ap (λ (z : State). came_from z (step_entry x) p) (sym t.next) ∙ ap (λ (k : Change). came_from y (entry_of x k) p) same in
      ap₂ (λ (b : Bool) (q : Place). if b then last_step (x ∷ before) else last_writer before q) wrote came

  pub noted : (c : Change) → taken.change ≡ c → calls c ≡ false → (new : List Writer)
      → ((i : ℕ) → i < 80 → get_or new i no_step ≡ noted_by y (register_of c) newest old i) → AreNotes (x ∷ before) new newest
  noted c is isnt new all = record {
    each = λ d r low reg.
        let e = depth_for d r in
        all (note_at e r) (within d r low reg)
        ∙ ap₂ (λ (b : Bool) (n : Writer). if b then newest else n) (same-notes y (register_of c) e r reg) (notes.each d r low reg)
        ∙ ap₂ (λ (n : Writer) (q : Place). if hits y (register_of c) e r then n else last_writer before q) newest-is (sym (came-same x y c e r isnt))
        ∙ sym (writer-is c is e r);
    last = newest-is;
  }

  -- a function that is called finds its caller's
  abbrev caller : ℕ → ℕ → Place
  caller e s = if e == depth y then place.Register (depth y - 1) s else place.Register e s

  abbrev is_handed : ℕ → ℕ → Bool
  is_handed e s = nat_le (depth y * 10 + 6) (e * 10 + s) && nat_lt (e * 10 + s) (depth y * 10 + 10)

  keeps : (e s : ℕ) → is_handed e s ≡ false → (e == depth y) ≡ false
      → get_or old (note_at e s) no_step ≡ last_writer before (place.Register e s)
      → handed_by (depth y) old (note_at e s) ≡ last_writer before (caller e s)
  keeps e s f g h =
      ap (λ (b : Bool). if b then get_or old (note_at e s - 10) no_step else get_or old (note_at e s) no_step) f
      ∙ h
      ∙ sym (ap (λ (b : Bool). last_writer before (if b then place.Register (depth y - 1) s else place.Register e s)) g)

  at-zero : (e s : ℕ) → e ≡ 0 → s < 6 → 0 < depth y → get_or old (note_at e s) no_step ≡ last_writer before (place.Register e s)
      → handed_by (depth y) old (note_at e s) ≡ last_writer before (caller e s)
  at-zero e s zero low some h =
      let f : nat_le (depth y * 10 + 6) (e * 10 + s) ≡ false = grind (arith, nat_tests, zero, low, some) in
      let g : (e == depth y) ≡ false = grind (arith, nat_tests, zero, some) in
      keeps e s (ap (λ (b : Bool). b && nat_lt (e * 10 + s) (depth y * 10 + 10)) f) g h

  at-other : (e s : ℕ) → e ≢ depth y → 6 ≤ s → s < 10 → get_or old (note_at e s) no_step ≡ last_writer before (place.Register e s)
      → handed_by (depth y) old (note_at e s) ≡ last_writer before (caller e s)
  at-other e s other high reg h =
      let g : (e == depth y) ≡ false = grind (arith, nat_tests, other) in
      elim (cases_lt e (depth y)) [
        | inl below ↦
            let f : nat_le (depth y * 10 + 6) (e * 10 + s) ≡ false = grind (arith, nat_tests, below, reg) in
            keeps e s (ap (λ (b : Bool). b && nat_lt (e * 10 + s) (depth y * 10 + 10)) f) g h
        | inr above ↦
            let past : depth y * 10 + 10 ≤ e * 10 + s = elim (cases_lt (depth y) e) [
              | inl more ↦ omega (arith, more)
              | inr none ↦ absurd (other (omega (arith, above, none)))
            ] in
            let f : nat_lt (e * 10 + s) (depth y * 10 + 10) ≡ false = grind (arith, nat_tests, past) in
            keeps e s (no-other (nat_le (depth y * 10 + 6) (e * 10 + s)) _ f) g h
      ]

  moves : (e s : ℕ) → e ≡ depth y → 6 ≤ s → s < 10 → 0 < depth y → depth y < 8
      → handed_by (depth y) old (note_at e s) ≡ last_writer before (caller e s)
  moves e s same high reg some deep =
      let p : nat_le (depth y * 10 + 6) (e * 10 + s) ≡ true = grind (arith, nat_tests, same, high) in
      let q : nat_lt (e * 10 + s) (depth y * 10 + 10) ≡ true = grind (arith, nat_tests, same, reg) in
      let f : is_handed e s ≡ true = ap₂ (λ (a b : Bool). a && b) p q in
      let g : (e == depth y) ≡ true = grind (arith, nat_tests, same) in
      let own : nat_lt s 6 ≡ false = grind (arith, nat_tests, high) in
      let lower : depth_for (depth y - 1) s ≡ depth y - 1 = ap (λ (b : Bool). if b then 0 else depth y - 1) own in
      let there : e * 10 + s - 10 ≡ (depth y - 1) * 10 + s = omega (arith, same, some) in
      ap (λ (b : Bool). if b then get_or old (note_at e s - 10) no_step else get_or old (note_at e s) no_step) f
      ∙ ap (λ (i : ℕ). get_or old i no_step) (there ∙ ap (λ (m : ℕ). m * 10 + s) (sym lower))
      ∙ notes.each (depth y - 1) s (omega (arith, deep)) reg
      ∙ ap (λ (m : ℕ). last_writer before (place.Register m s)) lower
      ∙ sym (ap (λ (b : Bool). last_writer before (if b then place.Register (depth y - 1) s else place.Register e s)) g)

  handed-at : (d s : ℕ) → d < 8 → s < 10 → 0 < depth y → depth y < 8
      → handed_by (depth y) old (note_at (depth_for d s) s) ≡ last_writer before (caller (depth_for d s) s)
  handed-at d s low reg some deep = elim (cases_lt s 6) [
    | inl below ↦
        let t : nat_lt s 6 ≡ true = grind (arith, nat_tests, below) in
        at-zero (depth_for d s) s (ap (λ (b : Bool). if b then 0 else d) t) below some (notes.each d s low reg)
    | inr past ↦
        let t : nat_lt s 6 ≡ false = grind (arith, nat_tests, past) in
        let own : depth_for d s ≡ d = ap (λ (b : Bool). if b then 0 else d) t in
        elim (cases_eq d (depth y)) [
          | inl same ↦ moves (depth_for d s) s (own ∙ same) past reg some deep
          | inr other ↦ at-other (depth_for d s) s (λ is. other (sym own ∙ is)) past reg (notes.each d s low reg)
        ]
  ]

  pub noted-call : (to : ℕ) → taken.change ≡ Call to → (new : List Writer)
      → (0 < depth y → depth y < 8 → (i : ℕ) → i < 80 → get_or new i no_step ≡ handed_by (depth y) old i) → AreNotes (x ∷ before) new newest
  noted-call to is new all =
      let same : change x ≡ Call to = sym t.change ∙ is in
      let fits : Fits x (Call to) = rw same at (change_fits x t.is) in
      let deeper = call-depth x y to (t.next ∙ ap (changed x) same) in
      let room : depth x + 1 < 8 = fits.2 in
      let some : 0 < depth y = omega (arith, deeper) in
      let deep : depth y < 8 = omega (arith, deeper, room) in
      record {
        each = λ d r low reg.
            all some deep (note_at (depth_for d r) r) (within d r low reg)
            ∙ handed-at d r low reg some deep
            ∙ sym (writer-is (Call to) is (depth_for d r) r ∙ ap (last_writer before) (came-call x y to (depth_for d r) r));
        last = newest-is;
      }

-- what is known of a change by these
pub no-call : (c : Change) (r : ℕ) → register_of c ≡ Some r → calls c ≡ false
no-call (Set r value after) s e = refl
no-call (Go after) s e = refl
no-call (Store a at size value after) s e = refl
no-call (Fetch a at size value r after) s e = refl
no-call (Call to) s e = absurd cc
no-call Return s e = refl
no-call (Cell a from n after) s e = refl
no-call (Trace word after) s e = refl
no-call (Stop status) s e = refl

pub a-call : (c : Change) → calls c ≡ true → (to : ℕ) × (c ≡ Call to)
a-call (Set r value after) e = absurd cc
a-call (Go after) e = absurd cc
a-call (Store a at size value after) e = absurd cc
a-call (Fetch a at size value r after) e = absurd cc
a-call (Call to) e = (to, refl)
a-call Return e = absurd cc
a-call (Cell a from n after) e = absurd cc
a-call (Trace word after) e = absurd cc
a-call (Stop status) e = absurd cc

-- r6 to r9 of a caller, as far as they are handed on
abbrev pub handed_to : ℕ → ℕ → List Writer → ℕ → Writer
handed_to d k old i = if nat_le (d * 10 + 6) i && nat_lt i (d * 10 + k) then get_or old (i - 10) no_step else get_or old i no_step

pub handed-more : (d k : ℕ) (old now : List Writer) → length now ≡ 80 → 0 < d → d < 8 → 6 ≤ k → k < 10
    → ((i : ℕ) → i < 80 → get_or now i no_step ≡ handed_to d k old i) → (i : ℕ) → i < 80
    → get_or (set now (d * 10 + k) (get_or now (d * 10 - 10 + k) no_step)) i no_step ≡ handed_to d (k + 1) old i
handed-more d k old now full some deep low high each i inside = elim (cases_eq i (d * 10 + k)) [
  | inl at ↦
      let from : nat_le (d * 10 + 6) (d * 10 - 10 + k) ≡ false = grind (arith, nat_tests, some, high) in
      let p : nat_le (d * 10 + 6) i ≡ true = grind (arith, nat_tests, at, low) in
      let q : nat_lt i (d * 10 + (k + 1)) ≡ true = grind (arith, nat_tests, at) in
      let there : d * 10 - 10 + k ≡ i - 10 = omega (arith, at, some) in
      get_or-set_at now (d * 10 + k) i (get_or now (d * 10 - 10 + k) no_step) no_step at (omega (arith, full, deep, high))
      ∙ each (d * 10 - 10 + k) (omega (arith, deep, high))
      ∙ ap (λ (b : Bool). if b && nat_lt (d * 10 - 10 + k) (d * 10 + k) then get_or old (d * 10 - 10 + k - 10) no_step
      else get_or old (d * 10 - 10 + k) no_step) from
      ∙ ap (λ (j : ℕ). get_or old j no_step) there
      ∙ sym (ap₂ (λ (a b : Bool). if a && b then get_or old (i - 10) no_step else get_or old i no_step) p q)
  | inr other ↦
      let same : nat_lt i (d * 10 + k) ≡ nat_lt i (d * 10 + (k + 1)) = elim (cases_lt i (d * 10 + k)) [
        | inl below ↦
            let p : nat_lt i (d * 10 + k) ≡ true = grind (arith, nat_tests, below) in
            let q : nat_lt i (d * 10 + (k + 1)) ≡ true = grind (arith, nat_tests, below) in
            p ∙ sym q
        | inr past ↦
            let p : nat_lt i (d * 10 + k) ≡ false = grind (arith, nat_tests, past) in
            let q : nat_lt i (d * 10 + (k + 1)) ≡ false = grind (arith, nat_tests, past, other) in
            p ∙ sym q
      ] in
      get_or-set_other now (d * 10 + k) i (get_or now (d * 10 - 10 + k) no_step) no_step other
      ∙ each i inside
      ∙ ap (λ (b : Bool). if nat_le (d * 10 + 6) i && b then get_or old (i - 10) no_step else get_or old i no_step) same
]
