-- The newest entry goes to a ring while its move is taken back, where it is of a step.
use Rattle.std.proofs.Common.{◌≡◌, ℕ, Bool, true, false, if◌then◌else◌, List, [], ◌∷◌, Option, Some, None, map, refl, sym, ap, subst, ◌∙◌}
use Rattle.std.specs.Option.{option_map}
use Rattle.std.specs.Prelude.{is_some, OnSome}
use Rattle.bpf_entries.specs.declared.entry.Entry.{Entry}
use Rattle.bpf_entries.specs.Fields.{FitsFields}
use Rattle.bpf_entries.specs.Keeping.{Kept, keep, kept_weight}
use Rattle.bpf_entries.specs.Past.{is_of_step}
use Rattle.bpf_entries.specs.Texts.{kind, tag}
use Rattle.bpf_machine.specs.declared.moves.Move.{Move}
use Rattle.bpf_machine.specs.declared.moves.Move.TheVariants as move
use Rattle.bpf_machine.specs.Fields.{EntriesFit}
use Rattle.bpf_machine.specs.Moves.{Leads, overwritten}
use Rattle.bpf_steps.specs.State.{State}
use Rattle.bpf_ring.specs.Heads.{head_of}
use Rattle.bpf_ring.specs.declared.keeper.Head.{Head}
use Rattle.bpf_journal.specs.declared.taken.Taken.{Taken}
use Rattle.bpf_journal.specs.Handing.{Hands}
use Rattle.bpf_journal.specs.Histories.{HasHistory, IsRun, Record, StandsFor, kept_of, newest, older}
use Rattle.bpf_journal.specs.TakingBack.{TakesBack, taken_by}
use Rattle.bpf_journal.proofs.Histories.{history_left, of_move, told}

-- a choice that isn't refused is made
pub is_true : (b : Bool) → (b ≡ false → ⊥) → b ≡ true
is_true true never = refl
is_true false never = absurd (never refl)

-- an answer isn't none and some
pub not_both : {A : Type 0} (answer : Option A) → answer ≡ None → is_some answer ≡ true → ⊥
not_both (Some a) none some = absurd cc
not_both None none some = absurd cc

-- what holds in any case holds of an answer
pub on_some : {A : Type 0} (answer : Option A) (P : Type 0) → P → OnSome answer P
on_some (Some a) P p = p
on_some None P p = tt

-- the entry of a step that led here fits its fields
pub step_fits : (h : List Record) (y : State) → EntriesFit → IsRun h y → (k : Kept) → Some k ≡ newest (map kept_of h) → is_of_step k.0 ≡ true → FitsFields k.0
step_fits [] y fit run k is step = absurd cc
step_fits (r ∷ h) y fit run k is step = by_move r.move refl where
  same : k ≡ kept_of r
  same = cc

  by_move : (m : Move) → r.move ≡ m → FitsFields k.0
  by_move move.Step of =
      subst FitsFields (sym (ap (λ (v : Kept). v.0) same ∙ ap (overwritten r.before) of))
      (fit r.before y move.Step (subst (λ (m : Move). Leads r.before m y) of run.0) tt)
  by_move (move.Edit e) of =
      let no = of_move r.before (move.Edit e) in
      let yes : is_of_step (overwritten r.before (move.Edit e)) ≡ true = ap is_of_step (sym (ap (λ (v : Kept). v.0) same ∙ ap (overwritten r.before) of)) ∙ step in
      absurd cc

-- what is pushed is handed over
pub pushed_over : (es ls : List Kept) (k : Kept) (handed : Bool) (size : ℕ) (held : List Kept → Type 0) → Some k ≡ newest es → is_of_step k.0 ≡ true → handed ≡ true
    → held (keep kept_weight size ls k) → Hands handed es ls size held
pushed_over [] ls k handed size held is step done kept = absurd cc
pushed_over (e ∷ es) ls k handed size held is step done kept =
    let same : k ≡ e = cc in
    let of : is_of_step e.0 ≡ true = ap (λ (v : Kept). is_of_step v.0) (sym same) ∙ step in
    (done ∙ sym of, subst (λ b. held (if b then keep kept_weight size ls e else ls)) (sym of) (subst (λ v. held (keep kept_weight size ls v)) same kept))

-- nothing is handed over of an edit
pub kept_back : (es ls : List Kept) (k : Kept) (size : ℕ) (held : List Kept → Type 0) → Some k ≡ newest es → is_of_step k.0 ≡ false → held ls → Hands false es ls size held
kept_back [] ls k size held is step kept = absurd cc
kept_back (e ∷ es) ls k size held is step kept =
    let same : k ≡ e = cc in
    let of : is_of_step e.0 ≡ false = ap (λ (v : Kept). is_of_step v.0) (sym same) ∙ step in
    (sym of, subst (λ b. held (if b then keep kept_weight size ls e else ls)) (sym of) kept)

module _ {K : Type 0} (holds : K → List Kept → Type 0) where
  -- where there is a newest, one is taken back
  pub some_taken : (h : List Record) (k : Kept) (taken : Option Taken) (y z : State) (new : K) → Some k ≡ newest (map kept_of h) → TakesBack holds taken h y new z → is_some taken ≡ true
  some_taken [] k taken y z new is back = absurd cc
  some_taken (r ∷ h) k taken y z new is back = ap is_some back.0

  -- a history is left, whether one was taken back or nothing changed
  pub left_over : (old new : K) (y z : State) (taken : Option Taken) (rest : Type 0) → OnSome taken ((h : List Record) → StandsFor holds old y h → TakesBack holds taken h y new z)
      → (taken ≡ None → (new ≡ old) × (z ≡ y) × rest) → HasHistory holds old y → HasHistory holds new z
  left_over old new y z (Some t) rest back stays i = history_left holds i.history (Some t) new y z (back i.history i.stands)
  left_over old new y z None rest back stays i =
      let s = stays refl in
      subst (λ (k : K). HasHistory holds k z) (sym s.0) (subst (HasHistory holds old) (sym s.1) i)

abbrev nothing : Option ℕ
nothing = None

-- a ring takes the newest back and hands it over, as its tag tells
module _ {K : Type 0} (holds : K → List Kept → Type 0) (old new : K) where
  pub taken_over : (h : List Record) (y z : State) (number : ℕ) (taken : Taken)
      → (holds old [] → Some number ≡ None)
      → ((ks : List Kept) (k : Kept) → holds old (k ∷ ks) → is_of_step k.0 ≡ false → Some number ≡ None)
      → ((ks : List Kept) (k : Kept) → holds old (k ∷ ks) → is_of_step k.0 ≡ true → (Some number ≡ Some (tag (kind k.0) k.1)) × holds new ks)
      → ((ks : List Kept) (k : Kept) (x : State) (m : Move) → holds old (k ∷ ks) → is_of_step k.0 ≡ true → Leads x m y → overwritten x m ≡ k.0 → z ≡ x)
      → ((entry : Entry) (mark : Bool) → number ≡ tag (kind entry) mark → taken ≡ taken_by (entry, mark))
      → StandsFor holds old y h → TakesBack holds (Some taken) h y new z
  taken_over [] y z number taken none edit some back by stands = let is : Some number ≡ None = none stands.0 in absurd cc
  taken_over (r ∷ h) y z number taken none edit some back by stands =
      let k : Kept = kept_of r in
      let step : is_of_step k.0 ≡ true = is_true (is_of_step k.0) (λ other. let is : Some number ≡ None = edit (map kept_of h) k stands.0 other in absurd cc) in
      let after = some (map kept_of h) k stands.0 step in
      let is : number ≡ tag (kind k.0) k.1 = (let e = after.0 in cc) in
      let same : z ≡ r.before = back (map kept_of h) k r.before r.move stands.0 step stands.1.0 refl in
      (ap Some (by k.0 k.1 is ∙ told r), same, (after.1, subst (IsRun h) (sym same) stands.1.1))

  pub handed_over : (es ls : List Kept) (number size : ℕ) (held : List Kept → Type 0)
      → (holds old [] → Some number ≡ None)
      → ((ks : List Kept) (k : Kept) → holds old (k ∷ ks) → is_of_step k.0 ≡ false → Some number ≡ None)
      → ((ks : List Kept) (k : Kept) → holds old (k ∷ ks) → is_of_step k.0 ≡ true → held (keep kept_weight size ls k))
      → holds old es → Hands true es ls size held
  handed_over [] ls number size held none edit kept holding = let is : Some number ≡ None = none holding in absurd cc
  handed_over (k ∷ es) ls number size held none edit kept holding =
      let step : is_of_step k.0 ≡ true = is_true (is_of_step k.0) (λ other. let is : Some number ≡ None = edit es k holding other in absurd cc) in
      (sym step, subst (λ b. held (if b then keep kept_weight size ls k else ls)) (sym step) (kept es k holding step))

  -- nothing is handed over where no tag is told
  pub none_over : (es ls : List Kept) (size : ℕ) (held : List Kept → Type 0)
      → ((ks : List Kept) (k : Kept) → holds old (k ∷ ks) → is_of_step k.0 ≡ true → (nothing ≡ Some (tag (kind k.0) k.1)) × holds new ks)
      → holds old es → held ls → Hands false es ls size held
  none_over [] ls size held some holding kept = (refl, kept)
  none_over (k ∷ es) ls size held some holding kept = by (is_of_step k.0) refl where
    by : (b : Bool) → is_of_step k.0 ≡ b → (false ≡ is_of_step k.0) × held (if is_of_step k.0 then keep kept_weight size ls k else ls)
    by true step = let is : nothing ≡ Some (tag (kind k.0) k.1) = (some es k holding step).0 in absurd cc
    by false step = (sym step, subst (λ b. held (if b then keep kept_weight size ls k else ls)) (sym step) kept)

-- what is told of the newest, of a ring that holds none and of one that holds some
module _ {A : Type 0} (holds : List Kept → Type 0) (answer : Option A) where
  pub told_newest : (tell : Kept → A) → (holds [] → answer ≡ None) → ((ks : List Kept) (k : Kept) → holds (k ∷ ks) → answer ≡ Some (tell k))
      → (es : List Kept) → holds es → answer ≡ option_map tell (newest es)
  told_newest tell none some [] held = none held
  told_newest tell none some (k ∷ es) held = some es k held

-- the newest, and what is left without it
pub newest_told : (holds : List Kept → Type 0) (answer : Option Kept) → (holds [] → answer ≡ None) → ((ks : List Kept) (k : Kept) → holds (k ∷ ks) → answer ≡ Some k)
    → (es : List Kept) → holds es → answer ≡ newest es
newest_told holds answer none some [] held = none held
newest_told holds answer none some (k ∷ es) held = some es k held

pub older_left : (holds left : List Kept → Type 0) → (holds [] → left []) → ((ks : List Kept) (k : Kept) → holds (k ∷ ks) → left ks)
    → (es : List Kept) → holds es → left (older es)
older_left holds left none some [] held = none held
older_left holds left none some (k ∷ es) held = some es k held

-- what was read of the newest tells of its move
module _ (holds : List Kept → Type 0) (head : Head) (next : Taken) (read : (es : List Kept) → holds es → Some head ≡ option_map head_of (newest es))
    (told : (entry : Entry) (mark : Bool) → head.tag ≡ tag (kind entry) mark → next ≡ taken_by (entry, mark)) where
  pub next_is : (es : List Kept) → holds es → Some next ≡ option_map taken_by (newest es)
  next_is [] held = let none = read [] held in absurd cc
  next_is (k ∷ es) held =
      let some = read (k ∷ es) held in
      let is : head ≡ head_of k = cc in
      ap Some (told k.0 k.1 (ap (λ (h : Head). h.tag) is))

  pub next_left : (left : List Kept → Type 0) → ((k : Kept) (es : List Kept) → holds (k ∷ es) → head ≡ head_of k → left es)
      → (es : List Kept) → holds es → (Some next ≡ option_map taken_by (newest es)) × left (older es)
  next_left left drops [] held = let none = read [] held in absurd cc
  next_left left drops (k ∷ es) held =
      let some = read (k ∷ es) held in
      let is : head ≡ head_of k = cc in
      (next_is (k ∷ es) held, drops k es held is)
