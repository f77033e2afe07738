-- The two rounds over the canonical listing, as its definition has them.
use Rattle.std.proofs.Common.{ℕ, suc, zero, ◌≡◌, ◌<◌, ◌≤◌, ◌+◌, ◌*◌, Bool, true, false, List, [], ◌∷◌, ◌++◌, drop, length, refl, ap, sym, ◌∙◌, arith, codes, subst, Option, Some, None, Ok, decimal, IsSome, unwrap_or, slice_get, inl, inr}
use Rattle.std.specs.Cmp.Lexicographic.{same_text}
use Rattle.std.specs.Str.{bytes_eq}
use Rattle.std.proofs.lemmas.Bool.{eq-eqb}
use Rattle.std.proofs.lemmas.Fmt.{decimal_injective}
use Rattle.bpf_isa.specs.declared.instruction.Insn.{Insn}
use Rattle.bpf_isa.specs.Programs.{slots_of}
use Rattle.bpf_isa.specs.Words.{IsWord}
use Rattle.bpf_text.specs.Labels.{Labels, labels_with}
use Rattle.bpf_text.specs.Listing.{Place, Outline, IsOutline, AreInsns, AreWords}
use Rattle.bpf_text.specs.Operands.{text_of_insn, label_text}
use Rattle.bpf_text.proofs.CanonicalLines.{slot_list, line_list, EntryFits, AllFit}
use Rattle.bpf_text.proofs.CanonicalTexts.{IsAt, says-canonical, insn-line, label-line}

-- the slot of the next instruction from slot p on
abbrev pub slot_of : ℕ → List (Option Insn) → ℕ
slot_of p [] = p
slot_of p (Some i ∷ rest) = p
slot_of p (None ∷ rest) = p + 1

-- each instruction takes its slots
abbrev pub WellCut : ℕ → List (Option Insn) → Type 0
WellCut p [] = Unit {0}
WellCut p (Some i ∷ rest) = (slot_of (p + 1) rest ≡ p + slots_of i) × WellCut (p + 1) rest
WellCut p (None ∷ rest) = (slot_of (p + 1) rest ≡ p + 1) × WellCut (p + 1) rest

slot_of-le : (p : ℕ) (rest : List (Option Insn)) → slot_of p rest ≤ p + length rest
slot_of-le p [] = omega arith
slot_of-le p (Some i ∷ rest) = omega arith
slot_of-le p (None ∷ rest) = omega arith

-- the labels after the slots from p on
abbrev pub labels_at : Bool → Labels → ℕ → ℕ → Labels
labels_at false labels p line_number = labels
labels_at true labels p line_number = labels_with labels (record { line = line_number; slot = p }) (Some (label_text p))

-- the line of the instruction in a slot, whose label's line is the first of so many
abbrev pub line_of_insn : Bool → ℕ → ℕ
line_of_insn false line_number = line_number
line_of_insn true line_number = line_number + 1

abbrev pub labels_after : (ℕ → Bool) → Labels → ℕ → ℕ → List (Option Insn) → Labels
labels_after f labels p line_number [] = labels
labels_after f labels p line_number (None ∷ rest) = labels_after f labels (p + 1) line_number rest
labels_after f labels p line_number (Some i ∷ rest) =
    labels_after f (labels_at (f p) labels p line_number) (p + 1) (line_of_insn (f p) line_number + 1) rest

-- no slot from p on is labelled
abbrev pub Fresh : Labels → ℕ → Type 0
Fresh labels p = (q : ℕ) → p ≤ q → q ≤ 65535 → labels (label_text q) ≡ None

-- a label differs from those of other slots
label-other : (p q : ℕ) → p ≤ 65535 → q ≤ 65535 → (p ≡ q → ⊥) → bytes_eq (label_text p) (label_text q) ≡ false
label-other p q h i apart = go (bytes_eq (decimal p) (decimal q)) refl where
  go : (b : Bool) → bytes_eq (decimal p) (decimal q) ≡ b → bytes_eq (label_text p) (label_text q) ≡ false
  go true e = absurd (apart (decimal_injective p q (omega arith) (omega arith) (same_text (decimal p) (decimal q) (sym e))))
  go false e = e

bytes_eq-self : (s : List ℕ) → bytes_eq s s ≡ true
bytes_eq-self [] = refl
bytes_eq-self (b ∷ s) = rw (eq-eqb b b refl) (bytes_eq-self s)

-- after a label further slots have none
Fresh-next : (b : Bool) (labels : Labels) (p line_number : ℕ) → p ≤ 65535 → Fresh labels p → Fresh (labels_at b labels p line_number) (p + 1)
Fresh-next false labels p line_number h fresh q more most = fresh q (omega arith) most
Fresh-next true labels p line_number h fresh q more most =
    rw (label-other p q h most (λ e. absurd (omega arith))) (fresh q (omega arith) most)

-- the texts of the slots from p on, in their places
abbrev pub places_at : Bool → ℕ → ℕ → Insn → List Place
places_at false p k i = record { line = k; slot = p; rest = text_of_insn p i } ∷ []
places_at true p k i = record { line = k; slot = p; rest = [] } ∷ record { line = k + 1; slot = p; rest = text_of_insn p i } ∷ []

abbrev pub all_places : (ℕ → Bool) → ℕ → ℕ → List (Option Insn) → List Place
all_places f p k [] = []
all_places f p k (None ∷ rest) = all_places f (p + 1) k rest
all_places f p k (Some i ∷ rest) = places_at (f p) p k i ++ all_places f (p + 1) (line_of_insn (f p) k + 1) rest

-- the first round at a slot
outline-insn : (final labels : Labels) (p k next : ℕ) (i : Insn) (tail : List (List ℕ)) (others : Outline) → EntryFits final p (Some i)
    → p + slots_of i ≤ 65535 → next ≡ p + slots_of i → IsOutline labels next (k + 1) tail (Ok others)
    → IsOutline labels p k (text_of_insn p i ∷ tail) (Ok (others.0, record { line = k; slot = p; rest = text_of_insn p i } ∷ others.1))
outline-insn final labels p k next i tail others fits room e known =
    let more = subst (λ n. IsOutline labels n (k + 1) tail (Ok others)) e known in
    let says = says-canonical final p i fits.0 in
    inr (None, text_of_insn p i, slots_of i, Ok others, ((insn-line final p i fits.0).is, refl), inr (final, i, says, refl), room, more, refl)

outline-label : (labels : Labels) (p k : ℕ) (tail : List (List ℕ)) (others : Outline) → p ≤ 65535 → labels (label_text p) ≡ None
    → IsOutline (labels_at true labels p k) p (k + 1) tail (Ok others)
    → IsOutline labels p k ((label_text p ++ codes ":") ∷ tail) (Ok (others.0, record { line = k; slot = p; rest = [] } ∷ others.1))
outline-label labels p k tail others h fresh known =
    let here : p ≡ p + 0 = omega arith in
    let more = subst (λ n. IsOutline (labels_at true labels p k) n (k + 1) tail (Ok others)) here known in
    let room : p + 0 ≤ 65535 = omega (arith, h) in
    inr (Some (label_text p), [], 0, Ok others, ((label-line p (omega (arith, h))).is, fresh), inl (refl, refl), room, more, refl)

outline-slot : (final : Labels) (b : Bool) (labels : Labels) (p k next : ℕ) (i : Insn) (tail : List (List ℕ)) (others : Outline)
    → p ≤ 65535 → Fresh labels p → EntryFits final p (Some i) → p + slots_of i ≤ 65535 → next ≡ p + slots_of i
    → IsOutline (labels_at b labels p k) next (line_of_insn b k + 1) tail (Ok others)
    → IsOutline labels p k (slot_list b p (Some i) ++ tail) (Ok (others.0, places_at b p k i ++ others.1))
outline-slot final false labels p k next i tail others h fresh fits room e known =
    outline-insn final labels p k next i tail others fits room e known
outline-slot final true labels p k next i tail others h fresh fits room e known =
    let inner = outline-insn final (labels_at true labels p k) p (k + 1) next i tail others fits room e known in
    outline-label labels p k (text_of_insn p i ∷ tail) (others.0, record { line = k + 1; slot = p; rest = text_of_insn p i } ∷ others.1) h
    (fresh p (omega arith) h) inner

-- and over all
pub outline-canonical : (final : Labels) (f : ℕ → Bool) (labels : Labels) (p k : ℕ) (rest : List (Option Insn))
    → p + length rest ≤ 65535 → AllFit final p rest → WellCut p rest → Fresh labels p
    → IsOutline labels (slot_of p rest) k (line_list f p rest) (Ok (labels_after f labels p k rest, all_places f p k rest))
outline-canonical final f labels p k [] h fits cut fresh = refl
outline-canonical final f labels p k (None ∷ rest) h fits cut fresh =
    let S : ℕ → Type 0 = λ s. IsOutline labels s k (line_list f (p + 1) rest) (Ok (labels_after f labels (p + 1) k rest, all_places f (p + 1) k rest)) in
    subst S cut.0 (outline-canonical final f labels (p + 1) k rest (omega arith) fits.1 cut.1 (λ q more most. fresh q (omega arith) most))
outline-canonical final f labels p k (Some i ∷ rest) h fits cut fresh =
    let most = slot_of-le (p + 1) rest in
    let after = line_of_insn (f p) k + 1 in
    let next = outline-canonical final f (labels_at (f p) labels p k) (p + 1) after rest (omega arith) fits.1 cut.1
    (Fresh-next (f p) labels p k (omega arith) fresh) in
    outline-slot final (f p) labels p k (slot_of (p + 1) rest) i (line_list f (p + 1) rest)
    (labels_after f (labels_at (f p) labels p k) (p + 1) after rest, all_places f (p + 1) after rest) (omega arith) fresh fits.0
    (omega (arith, cut.0, most)) cut.0 next

-- earlier labels stay
labels_after-keeps : (f : ℕ → Bool) (labels : Labels) (p t line_number : ℕ) (rest : List (Option Insn)) → p + length rest ≤ 65535 → t < p
    → labels_after f labels p line_number rest (label_text t) ≡ labels (label_text t)
labels_after-keeps f labels p t line_number [] h less = refl
labels_after-keeps f labels p t line_number (None ∷ rest) h less =
    labels_after-keeps f labels (p + 1) t line_number rest (omega arith) (omega arith)
labels_after-keeps f labels p t line_number (Some i ∷ rest) h less =
    labels_after-keeps f (labels_at (f p) labels p line_number) (p + 1) t (line_of_insn (f p) line_number + 1) rest (omega arith) (omega arith)
    ∙ one (f p) where
      one : (b : Bool) → labels_at b labels p line_number (label_text t) ≡ labels (label_text t)
      one false = refl
      one true = rw (label-other p t (omega arith) (omega arith) (λ e. absurd (omega arith))) refl

-- a labelled slot has its label
pub labels_after-has : (f : ℕ → Bool) (labels : Labels) (p k line_number : ℕ) (rest : List (Option Insn)) → p + length rest ≤ 65535
    → IsSome (unwrap_or (slice_get rest k) None) → f (p + k) ≡ true
    → IsAt (labels_after f labels p line_number rest) (p + k)
labels_after-has f labels p k line_number [] h start on = cc
labels_after-has f labels p zero line_number (None ∷ rest) h start on = cc
labels_after-has f labels p zero line_number (Some i ∷ rest) h start on =
    let here : p + 0 ≡ p = omega arith in
    let labelled : f p ≡ true = rw here at on in
    let at_p = labels_at (f p) labels p line_number in
    rw here (
      line_number,
      labels_after-keeps f at_p (p + 1) p (line_of_insn (f p) line_number + 1) rest (omega arith) (omega arith)
          ∙ ap (λ b. labels_at b labels p line_number (label_text p)) labelled ∙ rw (bytes_eq-self (label_text p)) refl,
    )
labels_after-has f labels p (suc k) line_number (None ∷ rest) h start on =
    let next : p + suc k ≡ p + 1 + k = omega arith in
    rw next (labels_after-has f labels (p + 1) k line_number rest (omega arith) start (rw next at on))
labels_after-has f labels p (suc k) line_number (Some i ∷ rest) h start on =
    let next : p + suc k ≡ p + 1 + k = omega arith in
    rw next (labels_after-has f (labels_at (f p) labels p line_number) (p + 1) k (line_of_insn (f p) line_number + 1) rest (omega arith) start
    (rw next at on))

-- the instructions of slots
abbrev pub insns_in : List (Option Insn) → List Insn
insns_in [] = []
insns_in (None ∷ rest) = insns_in rest
insns_in (Some i ∷ rest) = i ∷ insns_in rest

-- the second round over them
insns-slot : (final : Labels) (b : Bool) (p k : ℕ) (i : Insn) (places : List Place) (insns : List Insn) → EntryFits final p (Some i)
    → AreInsns final places (Ok insns) → AreInsns final (places_at b p k i ++ places) (Ok (i ∷ insns))
insns-slot final false p k i places insns fits known =
    inr (inr (i, Ok insns, (says-canonical final p i fits.0, fits.1), known, refl))
insns-slot final true p k i places insns fits known =
    inl (refl, inr (inr (i, Ok insns, (says-canonical final p i fits.0, fits.1), known, refl)))

pub insns-canonical : (final : Labels) (f : ℕ → Bool) (p k : ℕ) (rest : List (Option Insn)) → AllFit final p rest
    → AreInsns final (all_places f p k rest) (Ok (insns_in rest))
insns-canonical final f p k [] fits = refl
insns-canonical final f p k (None ∷ rest) fits = insns-canonical final f (p + 1) k rest fits.1
insns-canonical final f p k (Some i ∷ rest) fits =
    insns-slot final (f p) p k i (all_places f (p + 1) (line_of_insn (f p) k + 1) rest) (insns_in rest) fits.0
    (insns-canonical final f (p + 1) (line_of_insn (f p) k + 1) rest fits.1)

-- the bytes of the instructions from slot p on
abbrev pub EntrySpells : List ℕ → ℕ → Option Insn → Type 0
EntrySpells bytes p None = Unit {0}
EntrySpells bytes p (Some i) = (word : List ℕ) × (drop (8 * p) bytes ≡ word ++ drop (8 * (p + slots_of i)) bytes) × IsWord i word

abbrev pub AllSpell : List ℕ → ℕ → List (Option Insn) → Type 0
AllSpell bytes p [] = drop (8 * p) bytes ≡ []
AllSpell bytes p (i ∷ rest) = EntrySpells bytes p i × AllSpell bytes (p + 1) rest

pub AreWords-canonical : (bytes : List ℕ) (p : ℕ) (rest : List (Option Insn)) → WellCut p rest → AllSpell bytes p rest
    → AreWords (insns_in rest) (drop (8 * slot_of p rest) bytes)
AreWords-canonical bytes p [] cut spelled = spelled
AreWords-canonical bytes p (None ∷ rest) cut spelled =
    let S : ℕ → Type 0 = λ s. AreWords (insns_in rest) (drop (8 * s) bytes) in
    subst S cut.0 (AreWords-canonical bytes (p + 1) rest cut.1 spelled.1)
AreWords-canonical bytes p (Some i ∷ rest) cut spelled =
    let S : ℕ → Type 0 = λ s. AreWords (insns_in rest) (drop (8 * s) bytes) in (
      spelled.0.0,
      drop (8 * (p + slots_of i)) bytes,
      spelled.0.1,
      spelled.0.2,
      subst S cut.0 (AreWords-canonical bytes (p + 1) rest cut.1 spelled.1),
    )
