-- What the checker's passes found makes a program.
use Rattle.std.proofs.Common.{◌≡◌, ◌≢◌, ◌<◌, ◌⊎◌, inl, inr, ℕ, ℤ, pos, ◌+◌, ◌*◌, Bool, true, false, List, Option, Some, None, length, get_or, take, drop, refl, sym, ap, ◌∙◌, subst, arith, add-one, lit<, get_or-take, get_or-drop}
use Rattle.std.specs.Prelude.{◌↔◌, IsTrue, IsSome, is_some, IfSome, not, ◌&&◌, unwrap_or, slice_get, if◌then◌else◌}
use Rattle.std.proofs.lemmas.Option.{slice_get_past}
use Rattle.std.proofs.lemmas.Bool.{cases_lt}
use Rattle.std.proofs.lemmas.Bool.Decides.{nat_tests}
use Rattle.bpf_isa.specs.declared.instruction.Insn.{Insn}
use Rattle.bpf_isa.specs.declared.maps.MapShape.{MapShape}
use Rattle.bpf_isa.specs.Insns.{slots_of, FallsThrough, target_of, written_of}
use Rattle.bpf_isa.specs.Maps.{AreMaps}
use Rattle.bpf_isa.specs.Words.{row_of, IsWord}
use Rattle.bpf_isa.specs.Checker.{is_wide_at, is_start, IsStartIn, piece_at, AreSlots, IsAccepted}
use Rattle.bpf_isa.specs.Scaffolding.Checking.{IsPiece, IsInsnAt, AreInsns}
use Rattle.bpf_isa.specs.Programs.{IsStartAt, IsProgram}
use Rattle.bpf_isa.proofs.Spelling.{wide_or_not}

-- the first byte of a piece is the opcode of its slot
first_byte : (n k : ℕ) (bytes : List ℕ) → 0 < n → get_or (take n (drop k bytes)) 0 0 ≡ get_or bytes k 0
first_byte n k bytes filled = rw (get_or-take, get_or-drop) (ap (λ i. get_or bytes i 0) (omega arith))

first_by : (b : Bool) (k : ℕ) (bytes : List ℕ) → get_or (take (if b then 16 else 8) (drop k bytes)) 0 0 ≡ get_or bytes k 0
first_by true k bytes = first_byte 16 k bytes (lit< tt)
first_by false k bytes = first_byte 8 k bytes (lit< tt)

opcode_of_piece : (bytes : List ℕ) (p : ℕ) → get_or (piece_at bytes p) 0 0 ≡ get_or bytes (8 * p) 0
opcode_of_piece bytes p = first_by (is_wide_at bytes p) (8 * p) bytes

wide_at : (bytes : List ℕ) (p : ℕ) → get_or bytes (8 * p) 0 ≡ 24 → is_wide_at bytes p ≡ true
wide_at bytes p e = grind (arith, nat_tests)

narrow_at : (bytes : List ℕ) (p : ℕ) → get_or bytes (8 * p) 0 ≢ 24 → is_wide_at bytes p ≡ false
narrow_at bytes p e = grind (arith, nat_tests)

-- a piece is followed by the slot after its instruction's slots
abbrev after_piece : List ℕ → ℕ → ℕ
after_piece bytes p = if is_wide_at bytes p then p + 2 else p + 1

after_by : (b : Bool) (p n : ℕ) → ((b ≡ true) × (n ≡ 2)) ⊎ ((b ≡ false) × (n ≡ 1)) → (if b then p + 2 else p + 1) ≡ p + n
after_by b p n h = grind arith

after_slots : (bytes : List ℕ) (p : ℕ) (insn : Insn) → IsWord insn (piece_at bytes p) → after_piece bytes p ≡ p + slots_of insn
after_slots bytes p insn whole =
    let opcode : get_or bytes (8 * p) 0 ≡ (row_of insn).opcode = sym (opcode_of_piece bytes p) ∙ whole.reads.codes.opcode in
    after_by (is_wide_at bytes p) p (slots_of insn) (elim (wide_or_not insn) [ inl wide ↦ inl (wide_at bytes p (opcode ∙ wide.0), wide.1) | inr narrow ↦ inr (narrow_at bytes p (λ e. narrow.0 (sym opcode ∙ e)), narrow.1) ])

-- and that slot is a start
not_both : (a b : Bool) → a ≡ true → b ≡ true → not (a && b) ≡ false
not_both a b p q = cc

not_first : (a b : Bool) → a ≡ false → not (a && b) ≡ true
not_first a b p = cc

not_second : (a b : Bool) → a ≡ true → b ≡ false → not (a && b) ≡ true
not_second a b p q = cc

next_start : (bytes : List ℕ) (p : ℕ) → is_start bytes (p + 1) ≡ not (is_start bytes p && is_wide_at bytes p)
next_start bytes p = ap (is_start bytes) (add-one p)

start_by : (bytes : List ℕ) (p : ℕ) (b : Bool) → is_wide_at bytes p ≡ b → is_start bytes p ≡ true → is_start bytes (if b then p + 2 else p + 1) ≡ true
start_by bytes p true wide start =
    let second = next_start bytes p ∙ not_both _ _ start wide in
    let two : p + 2 ≡ (p + 1) + 1 = omega arith in
    ap (is_start bytes) two ∙ next_start bytes (p + 1) ∙ not_first _ _ second
start_by bytes p false wide start = next_start bytes p ∙ not_second _ _ start wide

start_after : (bytes : List ℕ) (p : ℕ) → is_start bytes p ≡ true → is_start bytes (after_piece bytes p) ≡ true
start_after bytes p start = start_by bytes p (is_wide_at bytes p) refl start

entry_start : (bytes : List ℕ) (maps : List MapShape) (p : ℕ) (o : Option Insn) → IsInsnAt bytes maps p o → IsSome o ↔ IsTrue (is_start bytes p)
entry_start bytes maps p None here = grind arith
entry_start bytes maps p (Some insn) here = (λ _. here.0, λ _. refl)

entry_piece : (bytes : List ℕ) (maps : List MapShape) (p : ℕ) (o : Option Insn) (insn : Insn) → IsInsnAt bytes maps p o → o ≡ Some insn → (is_start bytes p ≡ true) × IsPiece bytes maps p insn
entry_piece bytes maps p o insn here e = subst (IsInsnAt bytes maps p) e here

-- r10 is spared, and a target is a start
spared : (o : Option ℕ) (r : ℕ) → IfSome o (λ x. x < 10) → o ≡ Some r → r < 10
spared o r h e = subst (λ (v : Option ℕ). IfSome v (λ x. x < 10)) e h

abbrev IsTarget : List ℕ → ℤ → Type 0
IsTarget bytes t = (q : ℕ) × (t ≡ pos q) × IsStartIn bytes q

landed : (bytes : List ℕ) (o : Option ℤ) (t : ℤ) → IfSome o (IsTarget bytes) → o ≡ Some t → IsTarget bytes t
landed bytes o t h e = subst (λ (v : Option ℤ). IfSome v (IsTarget bytes)) e h

some_of : {o : Option Insn} {i : Insn} → o ≡ Some i → IsSome o
some_of e = ap is_some e

nothing_past : (o : Option (Option Insn)) → o ≡ None → IsSome (unwrap_or o None) → ⊥
nothing_past o e some = cc

module _ (bytes : List ℕ) (insns : List (Option Insn)) (maps : List MapShape) (n : ℕ) (size : 8 * n ≡ length bytes) (slots : AreSlots bytes) (tables : AreMaps maps) (kept : AreInsns bytes maps insns n) where
  inside : (p : ℕ) → IsSome (unwrap_or (slice_get insns p) None) → p < n
  inside p some = elim (cases_lt p (length insns)) [ inl here ↦ omega (arith, kept.slots) | inr past ↦ absurd (nothing_past _ (slice_get_past insns p past) some) ]

  to_start : (p : ℕ) → IsSome (unwrap_or (slice_get insns p) None) → IsStartIn bytes p
  to_start p some =
      let below = inside p some in
      (omega arith, (entry_start bytes maps p _ (kept.each p below)).0 some)

  from_start : (p : ℕ) → IsStartIn bytes p → IsSome (unwrap_or (slice_get insns p) None)
  from_start p start =
      let within = start.0 in
      let below : p < n = omega arith in
      (entry_start bytes maps p _ (kept.each p below)).1 start.1

  found : (p : ℕ) (i : Insn) → unwrap_or (slice_get insns p) None ≡ Some i → (is_start bytes p ≡ true) × IsPiece bytes maps p i
  found p i e = entry_piece bytes maps p _ i (kept.each p (inside p (some_of e))) e

  fallen : (p : ℕ) (i : Insn) → (is_start bytes p ≡ true) × IsPiece bytes maps p i → FallsThrough i → IsSome (unwrap_or (slice_get insns (p + slots_of i)) None)
  fallen p i here falls =
      let next = after_slots bytes p i here.1.whole in
      let within = here.1.sound.falls falls in
      let start : is_start bytes (p + slots_of i) ≡ true = subst (λ q. is_start bytes q ≡ true) next (start_after bytes p here.0) in
      from_start (p + slots_of i) (within, start)

  to_land : (t : ℤ) → IsTarget bytes t → IsStartAt (record { bytes = bytes; insns = insns; maps = maps }) t
  to_land t h = subst (IsStartAt (record { bytes = bytes; insns = insns; maps = maps })) (sym h.1) (from_start h.0 h.2)

  pub all_clear : IsAccepted bytes maps
  all_clear = record { slots = slots; clear = λ p start. (let within = start.0 in kept.clear p (omega arith) start) }

  pub is_program : IsProgram (record { bytes = bytes; insns = insns; maps = maps })
  is_program = record {
    first = from_start 0 (omega (arith, slots.filled), refl);
    short = omega (arith, slots.short, kept.slots);
    falls = λ p i e f. fallen p i (found p i e) f;
    lands = λ p t i e f. to_land t (landed bytes (target_of p i) t (found p i e).1.sound.lands f);
    spares = λ p r i e f. spared (written_of i) r ((found p i e).1.sound.spares) f;
    helpers = λ p i e. (found p i e).1.sound.helper;
    names = λ p i e. (found p i e).1.sound.names;
    tables = tables;
    accepted = all_clear;
    slots = omega (arith, kept.slots);
    starts = λ p. (to_start p, from_start p);
    words = λ p i e. (found p i e).1.whole;
  }
