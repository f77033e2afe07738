-- The canonical listing of a checked program has no fault, and its bytes are the program's.
use Rattle.std.proofs.Common.{ℕ, ℤ, pos, negsuc, suc, zero, ◌≡◌, ◌<◌, ◌≤◌, ◌+◌, ◌*◌, ◌||◌, ◌&&◌, not, Bool, true, false, List, [], ◌∷◌, ◌++◌, take, drop, length, refl, ap, sym, ◌∙◌, arith, subst, Option, Some, None, Ok, IsSome, is_some, unwrap_or, slice_get, if◌then◌else◌, add-one, ◌⊎◌, inl, inr, get_or, lit<, length-take, length-drop, drop-drop, zero-add}
use Rattle.std.proofs.lemmas.Bool.Decides.{nat_tests}
use Rattle.bpf_isa.proofs.Spelling.{wide_or_not}
use Rattle.std.proofs.Math.ListN.{drop_of_length-le}
use Rattle.std.proofs.lemmas.Bool.{eq-eqb}
use Rattle.std.proofs.lemmas.List.{take-append-drop, get_or-take, get_or-drop}
use Rattle.bpf_isa.specs.declared.instruction.Insn.{Insn}
use Rattle.bpf_isa.specs.Programs.{Checked, IsProgram, target_of, slots_of}
use Rattle.bpf_isa.specs.Checker.{is_start, is_wide_at, piece_at}
use Rattle.bpf_isa.specs.Words.{IsWord, row_of}
use Rattle.counted_io.specs.Lines.{lines}
use Rattle.bpf_text.specs.Canonical.{is_target, goes_to, canon}
use Rattle.bpf_text.specs.Labels.{Labels, no_label}
use Rattle.bpf_text.specs.Listing.{Outline, IsOutline, IsListing, AreWords}
use Rattle.bpf_text.proofs.Listings.{start-within}
use Rattle.bpf_text.proofs.CanonicalLines.{EntryFits, AllFit, lines-listing, line_list}
use Rattle.bpf_text.proofs.CanonicalRounds.{slot_of, WellCut, labels_after, AllSpell, EntrySpells, labels_after-has, all_places, insns_in, outline-canonical, insns-canonical, AreWords-canonical}
use Rattle.bpf_text.proofs.ProgramParts.{TargetReaches, word-fits, word-short}

-- the entry of slot k of a list
abbrev pub entry : List (Option Insn) → ℕ → Option Insn
entry insns k = unwrap_or (slice_get insns k) None

-- a jump's target is found
is_target-true : (p k t : ℕ) (rest : List (Option Insn)) (i : Insn) → entry rest k ≡ Some i
    → target_of (p + k) i ≡ Some (pos t) → is_target p rest t ≡ true
is_target-true p k t [] i e g = cc
is_target-true p zero t (x ∷ rest) i e g =
    let here : p + 0 ≡ p = omega arith in
    let goes : goes_to p x t ≡ true = rw (e, rw here at g) (eq-eqb t t refl) in rw goes refl
is_target-true p (suc k) t (x ∷ rest) i e g =
    let next : p + suc k ≡ p + 1 + k = omega arith in
    rw (is_target-true (p + 1) k t rest i e (rw next at g)) (or-true (goes_to p x t)) where
      or-true : (b : Bool) → (b || true) ≡ true
      or-true true = refl
      or-true false = refl

-- from each slot to the recursions over all
all-fit : (labels : Labels) (p : ℕ) (rest : List (Option Insn))
    → ((k : ℕ) (i : Insn) → entry rest k ≡ Some i → EntryFits labels (p + k) (Some i)) → AllFit labels p rest
all-fit labels p [] known = tt
all-fit labels p (None ∷ rest) known =
    (tt, all-fit labels (p + 1) rest (λ k i e. let next : p + suc k ≡ p + 1 + k = omega arith in rw next at (known (suc k) i e)))
all-fit labels p (Some i ∷ rest) known = (
  let here : p + 0 ≡ p = omega arith in rw here at (known 0 i refl),
  all-fit labels (p + 1) rest (λ k j e. let next : p + suc k ≡ p + 1 + k = omega arith in rw next at (known (suc k) j e)),
)

all-spell : (bytes : List ℕ) (p : ℕ) (rest : List (Option Insn))
    → ((k : ℕ) (i : Insn) → entry rest k ≡ Some i → EntrySpells bytes (p + k) (Some i))
    → drop (8 * (p + length rest)) bytes ≡ [] → AllSpell bytes p rest
all-spell bytes p [] known end = let here : p + 0 ≡ p = omega arith in rw here at end
all-spell bytes p (None ∷ rest) known end =
    let more : p + suc (length rest) ≡ p + 1 + length rest = omega arith in
    (tt, all-spell bytes (p + 1) rest (λ k i e. let next : p + suc k ≡ p + 1 + k = omega arith in rw next at (known (suc k) i e)) (rw more at end))
all-spell bytes p (Some i ∷ rest) known end =
    let more : p + suc (length rest) ≡ p + 1 + length rest = omega arith in (
      let here : p + 0 ≡ p = omega arith in rw here at (known 0 i refl),
      all-spell bytes (p + 1) rest (λ k j e. let next : p + suc k ≡ p + 1 + k = omega arith in rw next at (known (suc k) j e)) (rw more at end),
    )

-- how many slots an instruction takes, by its first byte
opcode-take : (n k : ℕ) (bytes : List ℕ) → 0 < n → get_or (take n (drop k bytes)) 0 0 ≡ get_or bytes k 0
opcode-take n k bytes h = rw (get_or-take, get_or-drop) (ap (λ i. get_or bytes i 0) (omega arith))

opcode-piece : (b : Bool) (k : ℕ) (bytes : List ℕ) → get_or (take (if b then 16 else 8) (drop k bytes)) 0 0 ≡ get_or bytes k 0
opcode-piece true k bytes = opcode-take 16 k bytes (lit< tt)
opcode-piece false k bytes = opcode-take 8 k bytes (lit< tt)

wide-at : (bytes : List ℕ) (p : ℕ) → get_or bytes (8 * p) 0 ≡ 24 → is_wide_at bytes p ≡ true
wide-at bytes p e = grind (arith, nat_tests)

narrow-at : (bytes : List ℕ) (p : ℕ) → (get_or bytes (8 * p) 0 ≡ 24 → ⊥) → is_wide_at bytes p ≡ false
narrow-at bytes p e = grind (arith, nat_tests)

abbrev pub TakesSlots : Bool → ℕ → Type 0
TakesSlots wide n = ((wide ≡ true) × (n ≡ 2)) ⊎ ((wide ≡ false) × (n ≡ 1))

takes-slots : (bytes : List ℕ) (p : ℕ) (i : Insn) → IsWord i (piece_at bytes p) → TakesSlots (is_wide_at bytes p) (slots_of i)
takes-slots bytes p i whole =
    let opcode : get_or bytes (8 * p) 0 ≡ (row_of i).opcode =
    sym (opcode-piece (is_wide_at bytes p) (8 * p) bytes) ∙ whole.reads.codes.opcode in
    elim (wide_or_not i) [
      | inl wide ↦ inl (wide-at bytes p (opcode ∙ wide.0), wide.1)
      | inr narrow ↦ inr (narrow-at bytes p (λ e. narrow.0 (sym opcode ∙ e)), narrow.1)
    ]

-- the bytes of an instruction, and what follows them
piece-by : (wide : Bool) (n p : ℕ) (bytes : List ℕ) → TakesSlots wide n
    → drop (8 * p) bytes ≡ take (if wide then 16 else 8) (drop (8 * p) bytes) ++ drop (8 * (p + n)) bytes
piece-by true n p bytes (inl t) =
    let far : 8 * (p + n) ≡ 8 * p + 16 = omega (arith, t.1) in
    rw far (sym (take-append-drop 16 (drop (8 * p) bytes)) ∙ ap (λ r. take 16 (drop (8 * p) bytes) ++ r) (drop-drop 16 (8 * p) bytes))
piece-by true n p bytes (inr t) = cc
piece-by false n p bytes (inl t) = cc
piece-by false n p bytes (inr t) =
    let far : 8 * (p + n) ≡ 8 * p + 8 = omega (arith, t.1) in
    rw far (sym (take-append-drop 8 (drop (8 * p) bytes)) ∙ ap (λ r. take 8 (drop (8 * p) bytes) ++ r) (drop-drop 8 (8 * p) bytes))

spells-at : (bytes : List ℕ) (p : ℕ) (i : Insn) → IsWord i (piece_at bytes p) → EntrySpells bytes p (Some i)
spells-at bytes p i whole =
    (piece_at bytes p, piece-by (is_wide_at bytes p) (slots_of i) p bytes (takes-slots bytes p i whole), whole)

-- it lies within the bytes
piece-within : (wide : Bool) (n p : ℕ) (bytes : List ℕ) → TakesSlots wide n
    → length (take (if wide then 16 else 8) (drop (8 * p) bytes)) ≡ 8 * n → 8 * p + 8 * n ≤ length bytes
piece-within true n p bytes t e =
    omega (arith, length-take 16 (drop (8 * p) bytes), length-drop (8 * p) bytes, e, some-slots true n t) where
      some-slots : (wide : Bool) (n : ℕ) → TakesSlots wide n → 1 ≤ n
      some-slots wide n (inl t) = omega (arith, t.1)
      some-slots wide n (inr t) = omega (arith, t.1)
piece-within false n p bytes t e =
    omega (arith, length-take 8 (drop (8 * p) bytes), length-drop (8 * p) bytes, e, some-slots false n t) where
      some-slots : (wide : Bool) (n : ℕ) → TakesSlots wide n → 1 ≤ n
      some-slots wide n (inl t) = omega (arith, t.1)
      some-slots wide n (inr t) = omega (arith, t.1)

-- the cut of the bytes is that of the instructions
pub record IsCut (bytes : List ℕ) (p : ℕ) (rest : List (Option Insn)) : Type 0 where
  pub starts : (k : ℕ) → k < length rest → is_start bytes (p + k) ≡ is_some (entry rest k)
  pub slots : (k : ℕ) (i : Insn) → entry rest k ≡ Some i → TakesSlots (is_wide_at bytes (p + k)) (slots_of i)
  pub within : (k : ℕ) (i : Insn) → entry rest k ≡ Some i → k + slots_of i ≤ length rest

IsCut-next : (bytes : List ℕ) (p : ℕ) (o : Option Insn) (rest : List (Option Insn)) → IsCut bytes p (o ∷ rest) → IsCut bytes (p + 1) rest
IsCut-next bytes p o rest known = record {
  starts = λ k h. let next : p + suc k ≡ p + 1 + k = omega arith in rw next at (known.starts (suc k) (omega arith));
  slots = λ k i e. let next : p + suc k ≡ p + 1 + k = omega arith in rw next at (known.slots (suc k) i e);
  within = λ k i e. let h = known.within (suc k) i e in omega (arith, h);
}

-- two slots are cut as one instruction, or as two
cut-first : (start wide next : Bool) (n : ℕ) → start ≡ true → next ≡ not (start && wide) → TakesSlots wide n
    → ((next ≡ true) × (n ≡ 1)) ⊎ ((next ≡ false) × (n ≡ 2))
cut-first true true next n s e (inl t) = inr (e, t.1)
cut-first true true next n s e (inr t) = cc
cut-first true false next n s e (inl t) = cc
cut-first true false next n s e (inr t) = inl (e, t.1)
cut-first false wide next n s e t = cc

start-next : (bytes : List ℕ) (p : ℕ) → is_start bytes (p + 1) ≡ not (is_start bytes p && is_wide_at bytes p)
start-next bytes p = rw add-one refl

one-or-two : (wide : Bool) (n : ℕ) → TakesSlots wide n → 1 ≤ n
one-or-two wide n (inl t) = omega (arith, t.1)
one-or-two wide n (inr t) = omega (arith, t.1)

-- the slot after an instruction
slot-by : (p n : ℕ) (next : Option Insn) (rest : List (Option Insn)) (b : Bool)
    → ((b ≡ true) × (n ≡ 1)) ⊎ ((b ≡ false) × (n ≡ 2)) → b ≡ is_some next → slot_of (p + 1) (next ∷ rest) ≡ p + n
slot-by p n None rest b (inl t) e = cc
slot-by p n None rest b (inr t) e = let two = t.1 in omega (arith, two)
slot-by p n (Some j) rest b (inl t) e = let one = t.1 in omega (arith, one)
slot-by p n (Some j) rest b (inr t) e = cc

slot-after-insn : (p : ℕ) (i : Insn) (rest : List (Option Insn)) (bytes : List ℕ) → IsCut bytes p (Some i ∷ rest)
    → slot_of (p + 1) rest ≡ p + slots_of i
slot-after-insn p i [] bytes known =
    let here : p + 0 ≡ p = omega arith in
    let takes : TakesSlots (is_wide_at bytes p) (slots_of i) = rw here at (known.slots 0 i refl) in
    let within = known.within 0 i refl in
    omega (arith, within, one-or-two (is_wide_at bytes p) (slots_of i) takes)
slot-after-insn p i (o ∷ rest) bytes known =
    let here : p + 0 ≡ p = omega arith in
    let takes : TakesSlots (is_wide_at bytes p) (slots_of i) = rw here at (known.slots 0 i refl) in
    let first : is_start bytes p ≡ true = rw here at (known.starts 0 (omega arith)) in
    slot-by p (slots_of i) o rest (is_start bytes (p + 1))
    (cut-first (is_start bytes p) (is_wide_at bytes p) (is_start bytes (p + 1)) (slots_of i) first (start-next bytes p) takes)
    (known.starts 1 (omega arith))

slot-after-none : (p : ℕ) (rest : List (Option Insn)) (bytes : List ℕ) → IsCut bytes p (None ∷ rest)
    → slot_of (p + 1) rest ≡ p + 1
slot-after-none p [] bytes known = refl
slot-after-none p (Some j ∷ rest) bytes known = refl
slot-after-none p (None ∷ rest) bytes known =
    let here : p + 0 ≡ p = omega arith in
    let first : is_start bytes p ≡ false = rw here at (known.starts 0 (omega arith)) in
    let second : is_start bytes (p + 1) ≡ false = known.starts 1 (omega arith) in
    absurd (apart (is_start bytes p) (is_wide_at bytes p) (is_start bytes (p + 1)) first (start-next bytes p) second) where
      apart : (a w b : Bool) → a ≡ false → b ≡ not (a && w) → b ≡ false → ⊥
      apart true w b p q r = cc
      apart false w b p q r = cc

well-cut : (bytes : List ℕ) (p : ℕ) (rest : List (Option Insn)) → IsCut bytes p rest → WellCut p rest
well-cut bytes p [] known = tt
well-cut bytes p (None ∷ rest) known =
    (slot-after-none p rest bytes known, well-cut bytes (p + 1) rest (IsCut-next bytes p None rest known))
well-cut bytes p (Some i ∷ rest) known =
    (slot-after-insn p i rest bytes known, well-cut bytes (p + 1) rest (IsCut-next bytes p (Some i) rest known))

-- two tests that agree
agree : (a b : Bool) → (a ≡ true → b ≡ true) → (b ≡ true → a ≡ true) → b ≡ a
agree true b p q = p refl
agree false true p q = sym (q refl)
agree false false p q = refl

-- the cut of a program
program-cut : (code : Checked) → IsProgram code → IsCut code.bytes 0 code.insns
program-cut code known = record {
  starts = λ k h. rw (zero-add k) (agree (is_some (entry code.insns k)) (is_start code.bytes k)
      (λ s. ((known.starts k).0 s).1)
      (λ s. (known.starts k).1 (let slots = known.slots in omega (arith, slots, h), s)));
  slots = λ k i e. rw (zero-add k) (takes-slots code.bytes k i (known.words k i e));
  within = λ k i e.
      let whole = known.words k i e in
      let slots = known.slots in
      omega (arith, slots, piece-within (is_wide_at code.bytes k) (slots_of i) k code.bytes (takes-slots code.bytes k i whole) whole.size);
}

-- the labels of a program
abbrev pub program_labels : Checked → Labels
program_labels code = labels_after (is_target 0 code.insns) no_label 0 1 code.insns

-- each target of a program has its label
program-reach : (code : Checked) → IsProgram code → (k : ℕ) (i : Insn) → entry code.insns k ≡ Some i
    → TargetReaches (program_labels code) (target_of k i)
program-reach code known k i e = go (target_of k i) refl where
  go : (o : Option ℤ) → target_of k i ≡ o → TargetReaches (program_labels code) o
  go None g = tt
  go (Some (negsuc n)) g = absurd (known.lands k (negsuc n) i e g)
  go (Some (pos t)) g =
      let start = known.lands k (pos t) i e g in
      let within = start-within code t start in
      let short = known.short in
      let goes = is_target-true 0 k t code.insns i e (rw (zero-add k) g) in
      let found = labels_after-has (is_target 0 code.insns) no_label 0 t 1 code.insns (rw (zero-add (length code.insns)) short) start
      (rw (zero-add t) goes) in
      (omega (arith, within, short), rw (zero-add t) at found)

slot-first : (insns : List (Option Insn)) → IsSome (entry insns 0) → slot_of 0 insns ≡ 0
slot-first [] h = refl
slot-first (Some i ∷ rest) h = refl
slot-first (None ∷ rest) h = cc

-- nothing follows the last slot
program-end : (code : Checked) → IsProgram code → drop (8 * (0 + length code.insns)) code.bytes ≡ []
program-end code known =
    let slots = known.slots in
    drop_of_length-le code.bytes {i = 8 * (0 + length code.insns)} (omega (arith, slots))

-- the law
pub canonical-listing : (code : Checked) → IsProgram code → IsListing (canon code) code.bytes
canonical-listing code known =
    let insns = code.insns in
    let f = is_target 0 insns in
    let labels = program_labels code in
    let short = known.short in
    let room : 0 + length insns ≤ 65535 = rw (zero-add (length insns)) short in
    let fits : AllFit labels 0 insns = all-fit labels 0 insns (λ k i e. rw (zero-add k)
    (word-fits labels k i (piece_at code.bytes k) (known.words k i e) (program-reach code known k i e), word-short i (piece_at code.bytes k) (known.words k i e))) in
    let cut = well-cut code.bytes 0 insns (program-cut code known) in
    let spelled : AllSpell code.bytes 0 insns = all-spell code.bytes 0 insns
    (λ k i e. rw (zero-add k) (spells-at code.bytes k i (known.words k i e)))
    (program-end code known) in
    let text : lines (canon code) ≡ line_list f 0 insns = lines-listing labels f 0 insns (omega (arith, room)) fits in
    let zero_first = slot-first insns known.first in
    let outline : Outline = (labels, all_places f 0 1 insns) in
    let found = outline-canonical labels f no_label 0 1 insns room fits cut (λ q low high. refl) in
    let First : ℕ → Type 0 = λ s. IsOutline no_label s 1 (line_list f 0 insns) (Ok outline) in
    let Lines : List (List ℕ) → Type 0 = λ text. IsOutline no_label 0 1 text (Ok outline) in
    let Bytes : ℕ → Type 0 = λ s. AreWords (insns_in insns) (drop (8 * s) code.bytes) in
    record {
      insns = insns_in insns;
      clear = inr (outline, subst Lines (sym text) (subst First zero_first found), insns-canonical labels f 0 1 insns fits);
      spelled = subst Bytes zero_first (AreWords-canonical code.bytes 0 insns cut spelled);
    }
