-- A program is words: it doesn't begin as an object, and a byte of it is zero, as in no listing.
use Rattle.std.proofs.Common.{◌≡◌, ◌<◌, ◌≤◌, ◌⊎◌, inl, inr, ℕ, zero, suc, ◌+◌, ◌*◌, Bool, true, false, List, [], ◌∷◌, Option, Some, None, length, get_or, take, drop, refl, sym, ap, ◌∙◌, subst, arith, get_or-take, get_or-drop, lit<}
use Rattle.std.specs.Prelude.{◌==◌, ◌&&◌, not, codes, IsSome, if◌then◌else◌}
use Rattle.std.specs.List.{ends_with, list_any}
use Rattle.std.proofs.lemmas.Bool.Decides.{nat_tests}
use Rattle.std.proofs.lemmas.List.Folds.{list_any_at}
use Rattle.bpf_isa.specs.declared.instruction.Insn.{Insn}
use Rattle.bpf_isa.specs.declared.instruction.Insn.TheVariants.{Jump, JumpLong, Exit}
use Rattle.bpf_isa.specs.declared.row.Field.{Field}
use Rattle.bpf_isa.specs.declared.row.Field.TheVariants.{Unused}
use Rattle.bpf_isa.specs.Checker.{is_wide_at, piece_at}
use Rattle.bpf_isa.specs.Insns.{slots_of, FallsThrough}
use Rattle.bpf_isa.specs.Programs.{Checked, IsProgram, IsStart, insn_at}
use Rattle.bpf_isa.specs.Rows.{IsClear}
use Rattle.bpf_isa.specs.Words.{row_of, u16_at, IsWord}
use Rattle.bpf_isa.proofs.Spelling.{wide_or_not}
use Rattle.bpf_load.specs.declared.target.SourceKind.{SourceKind}
use Rattle.bpf_load.specs.declared.target.SourceKind.TheVariants.{Listing, Object, Words}
use Rattle.bpf_load.specs.Kinds.{is_object}
use Rattle.bpf_load.specs.KindLaws.{ProgramsAreWords}

-- the first eight bytes of a piece are those of its slot
byte_in : (n k i : ℕ) (bytes : List ℕ) → i < n → get_or (take n (drop k bytes)) i 0 ≡ get_or bytes (k + i) 0
byte_in n k i bytes inside = rw (get_or-take, get_or-drop) (ap (λ j. get_or bytes j 0) (omega arith))

byte_by : (wide : Bool) (k i : ℕ) (bytes : List ℕ) → i < 8 → get_or (take (if wide then 16 else 8) (drop k bytes)) i 0 ≡ get_or bytes (k + i) 0
byte_by true k i bytes inside = byte_in 16 k i bytes (omega arith)
byte_by false k i bytes inside = byte_in 8 k i bytes inside

byte_of_piece : (bytes : List ℕ) (p i : ℕ) → i < 8 → get_or (piece_at bytes p) i 0 ≡ get_or bytes (8 * p + i) 0
byte_of_piece bytes p i inside = byte_by (is_wide_at bytes p) (8 * p) i bytes inside

-- the only words that begin with the magic number's first byte shift by a register: they don't use the offset, which is zero
unused_offset : (insn : Insn) → (row_of insn).opcode ≡ 127 → (row_of insn).offset ≡ Unused
unused_offset insn e = grind arith

no_magic : (insn : Insn) (bytes : List ℕ) → IsWord insn bytes → get_or bytes 0 0 ≡ 127 → get_or bytes 2 0 ≡ 76 → ⊥
no_magic insn bytes whole first third =
    let opcode : get_or bytes 0 0 ≡ (row_of insn).opcode = whole.reads.codes.opcode in
    let clear : u16_at bytes 2 ≡ 0 = subst (λ (f : Field). IsClear f (u16_at bytes 2)) (unused_offset insn (sym opcode ∙ first)) whole.clean.offset in
    omega (arith, clear, third)

magic_at : (bytes : List ℕ) → is_object bytes ≡ true → (get_or bytes 0 0 ≡ 127) × (get_or bytes 2 0 ≡ 76)
magic_at [] e = cc
magic_at (a ∷ []) e = grind (arith, nat_tests)
magic_at (a ∷ b ∷ []) e = grind (arith, nat_tests)
magic_at (a ∷ b ∷ c ∷ rest) e = grind (arith, nat_tests)

no_object_by : (bytes : List ℕ) (insn : Insn) (object : Bool) → IsWord insn (piece_at bytes 0) → is_object bytes ≡ object → object ≡ false
no_object_by bytes insn false whole e = refl
no_object_by bytes insn true whole e =
    let magic = magic_at bytes e in
    absurd (no_magic insn (piece_at bytes 0) whole (byte_of_piece bytes 0 0 (lit< tt) ∙ magic.0) (byte_of_piece bytes 0 2 (lit< tt) ∙ magic.1))

no_object_at : (code : Checked) → IsProgram code → (o : Option Insn) → insn_at code 0 ≡ o → IsSome o → is_object code.bytes ≡ false
no_object_at code known None e some = absurd (cc)
no_object_at code known (Some insn) e some = no_object_by code.bytes insn (is_object code.bytes) (known.words 0 insn e) refl

no_object : (code : Checked) → IsProgram code → is_object code.bytes ≡ false
no_object code known = no_object_at code known (insn_at code 0) refl known.first

-- a word behind which the program may end has a byte that is zero, of its number or its offset
falls_or_zero : (insn : Insn) (bytes : List ℕ) → IsWord insn bytes → FallsThrough insn ⊎ ((i : ℕ) × (i < 8) × (get_or bytes i 0 ≡ 0))
falls_or_zero (Jump offset) bytes whole = let clear = whole.clean.imm in inr (4, lit< tt, omega (arith, clear))
falls_or_zero (JumpLong distance) bytes whole = let clear = whole.clean.offset in inr (2, lit< tt, omega (arith, clear))
falls_or_zero Exit bytes whole = let clear = whole.clean.offset in inr (2, lit< tt, omega (arith, clear))
falls_or_zero insn bytes whole = inl tt

record HasZero (bytes : List ℕ) : Type 0 where
  at : ℕ
  inside : at < length bytes
  is : get_or bytes at 0 ≡ 0

some_slot : (insn : Insn) → 1 ≤ slots_of insn
some_slot insn = elim (wide_or_not insn) [ inl wide ↦ omega (arith, wide.1) | inr narrow ↦ omega (arith, narrow.1) ]

-- it is in the word at a slot, or in one that comes later
zero_by : (code : Checked) → IsProgram code → (p : ℕ) (o : Option Insn) → insn_at code p ≡ o → IsSome o → ((q : ℕ) → p < q → IsStart code q → HasZero code.bytes) → HasZero code.bytes
zero_by code known p None e some later = absurd (cc)
zero_by code known p (Some insn) e some later =
    let start : IsStart code p = subst IsSome (sym e) some in
    let within = ((known.starts p).0 start).0 in
    let slots = known.slots in
    elim (falls_or_zero insn (piece_at code.bytes p) (known.words p insn e)) [
      | inl falls ↦ later (p + slots_of insn) (omega (arith, some_slot insn)) (known.falls p insn e falls)
      | inr own ↦ record { at = 8 * p + own.0; inside = omega (arith, within, slots, own.1); is = sym (byte_of_piece code.bytes p own.0 own.1) ∙ own.2 }
    ]

zero_from : (code : Checked) → IsProgram code → (n p : ℕ) → length code.insns ≤ p + n → IsStart code p → HasZero code.bytes
zero_from code known zero p near start =
    let within = ((known.starts p).0 start).0 in
    let slots = known.slots in
    absurd (omega (arith, near, within, slots))
zero_from code known (suc n) p near start =
    zero_by code known p (insn_at code p) refl start (λ q later next. zero_from code known n q (omega (arith, near, later)) next)

some_zero : (code : Checked) → IsProgram code → list_any (λ b. b == 0) code.bytes ≡ true
some_zero code known =
    let found = zero_from code known (length code.insns) 0 (omega arith) known.first in
    list_any_at (λ b. b == 0) code.bytes found.at 0 found.inside (ap (λ b. b == 0) found.is)

-- so neither kind is told
only_words : (object named has_zero : Bool) → object ≡ false → has_zero ≡ true → ◌≡◌ {A = SourceKind} (if object then Object else if named && not has_zero then Listing else Words) Words
only_words false true true p q = refl
only_words false false true p q = refl
only_words false named false p q = cc
only_words true named has_zero p q = cc

pub programs_are_words : ProgramsAreWords
programs_are_words name code known = only_words _ (ends_with (λ a b. a == b) name (codes ".s")) _ (no_object code known) (some_zero code known)
