-- A word is determined by its instruction: its fields are, and its bytes are by its fields.
use Rattle.std.proofs.Common.{◌≡◌, ◌≢◌, ◌<◌, ◌≤◌, ◌⊎◌, inl, inr, ℕ, ◌+◌, ◌*◌, ◌^◌, ℤ, List, [], ◌∷◌, ◌++◌, length, get_or, refl, sym, ap, ◌∙◌, arith, length-append, lit<}
use Rattle.std.specs.Prelude.{All}
use Rattle.std.specs.Int.{w16, w32, cast_signed, cast_unsigned}
use Rattle.std.proofs.lemmas.Int.{of_z-to_z}
use Rattle.std.proofs.lemmas.Bool.{cases_lt}
use Rattle.std.proofs.lemmas.List.{get_or_past, get_or_append_left}
use Rattle.std.proofs.lemmas.Grind.{same_number_lists}
use borrow.Author.Count.{below_none, below_more}
use Rattle.std.proofs.lemmas.List.Elements.{All-get_or}
use Rattle.bpf_isa.specs.declared.instruction.Insn.{Insn}
use Rattle.bpf_isa.specs.declared.fields.Fields.{Fields}
use Rattle.bpf_isa.specs.Insns.{slots_of}
use Rattle.bpf_isa.specs.declared.fault.WordFault.TheVariants.{CutOff}
use Rattle.bpf_isa.specs.WordFaults.{HasWordFault}
use Rattle.bpf_isa.specs.Scaffolding.Codec.{IsRead}
use Rattle.bpf_isa.specs.Words.{row_of, fields_of, HasCodes, IsClean, HasParts, IsWord}

-- the ranges of the fields
record AreSmall (f : Fields) : Type 0 where
  offset : f.offset < 2 ^ 16
  imm : f.imm < 2 ^ 32
  next : f.next < 2 ^ 32

same_half : (x y : ℕ) (z : ℤ) → x < 2 ^ 16 → y < 2 ^ 16 → cast_signed w16 x ≡ z → cast_signed w16 y ≡ z → x ≡ y
same_half x y z p q e h = sym (of_z-to_z w16 x p) ∙ ap (cast_unsigned w16) (e ∙ sym h) ∙ of_z-to_z w16 y q

same_word : (x y : ℕ) (z : ℤ) → x < 2 ^ 32 → y < 2 ^ 32 → cast_signed w32 x ≡ z → cast_signed w32 y ≡ z → x ≡ y
same_word x y z p q e h = sym (of_z-to_z w32 x p) ∙ ap (cast_unsigned w32) (e ∙ sym h) ∙ of_z-to_z w32 y q

-- the fields agree
record Agree (f g : Fields) : Type 0 where
  opcode : f.opcode ≡ g.opcode
  dst : f.dst ≡ g.dst
  src : f.src ≡ g.src
  offset : f.offset ≡ g.offset
  imm : f.imm ≡ g.imm
  reserved : f.reserved ≡ g.reserved
  next : f.next ≡ g.next

agree : (insn : Insn) (f g : Fields) → AreSmall f → AreSmall g → HasCodes (row_of insn) f → HasCodes (row_of insn) g → IsClean (row_of insn) f → IsClean (row_of insn) g → HasParts insn f → HasParts insn g → Agree f g
agree insn f g small_f small_g codes_f codes_g clean_f clean_g parts_f parts_g = grind (arith, same_half, same_word)

-- the opcode tells how many slots there are
pub wide_or_not : (insn : Insn) → (((row_of insn).opcode ≡ 24) × (slots_of insn ≡ 2)) ⊎ (((row_of insn).opcode ≢ 24) × (slots_of insn ≡ 1))
wide_or_not insn = grind arith

-- a byte anywhere, also past the end
small_at : (bytes : List ℕ) (i : ℕ) → All (λ byte. byte < 256) bytes → get_or bytes i 0 < 256
small_at bytes i small = elim (cases_lt i (length bytes)) [ inl inside ↦ All-get_or (λ byte. byte < 256) bytes i 0 inside small | inr past ↦ rw (get_or_past bytes i 0 past) (lit< tt) ]

small_fields : (bytes : List ℕ) → All (λ byte. byte < 256) bytes → AreSmall (fields_of bytes)
small_fields bytes small =
    let b2 = small_at bytes 2 small in
    let b3 = small_at bytes 3 small in
    let b4 = small_at bytes 4 small in
    let b5 = small_at bytes 5 small in
    let b6 = small_at bytes 6 small in
    let b7 = small_at bytes 7 small in
    let b12 = small_at bytes 12 small in
    let b13 = small_at bytes 13 small in
    let b14 = small_at bytes 14 small in
    let b15 = small_at bytes 15 small in
    record { offset = omega arith; imm = omega arith; next = omega arith }

-- numbers of two and of four bytes have one spelling
same_two : (a b c d : ℕ) → a < 256 → b < 256 → c < 256 → d < 256 → a + 256 * b ≡ c + 256 * d → (a ≡ c) × (b ≡ d)
same_two a b c d p q r s e = (omega arith, omega arith)

same_four : (a b c d w x y z : ℕ) → a < 256 → b < 256 → c < 256 → d < 256 → w < 256 → x < 256 → y < 256 → z < 256 → (a + 256 * b) + 65536 * (c + 256 * d) ≡ (w + 256 * x) + 65536 * (y + 256 * z) → (a ≡ w) × (b ≡ x) × (c ≡ y) × (d ≡ z)
same_four a b c d w x y z p q r s t u v k e = (omega arith, omega arith, omega arith, omega arith)

-- the first sixteen bytes are the fields'
same_at : (a b : List ℕ) → All (λ byte. byte < 256) a → All (λ byte. byte < 256) b → Agree (fields_of a) (fields_of b) → (k : ℕ) → k < 16 → get_or a k 0 ≡ get_or b k 0
same_at a b small_a small_b same =
    let at = λ (i : ℕ). small_at a i small_a in
    let bt = λ (i : ℕ). small_at b i small_b in
    let offset = same_two _ _ _ _ (at 2) (at 3) (bt 2) (bt 3) same.offset in
    let imm = same_four _ _ _ _ _ _ _ _ (at 4) (at 5) (at 6) (at 7) (bt 4) (bt 5) (bt 6) (bt 7) same.imm in
    let reserved = same_four _ _ _ _ _ _ _ _ (at 8) (at 9) (at 10) (at 11) (bt 8) (bt 9) (bt 10) (bt 11) same.reserved in
    let next = same_four _ _ _ _ _ _ _ _ (at 12) (at 13) (at 14) (at 15) (bt 12) (bt 13) (bt 14) (bt 15) same.next in
    let registers : get_or a 1 0 ≡ get_or b 1 0 = omega (arith, same.dst, same.src) in
    let P : ℕ → Type 0 = λ k. get_or a k 0 ≡ get_or b k 0 in
    let upto2 = below_more P 1 (below_more P 0 (below_none P) same.opcode) registers in
    let upto4 = below_more P 3 (below_more P 2 upto2 offset.0) offset.1 in
    let upto8 = below_more P 7 (below_more P 6 (below_more P 5 (below_more P 4 upto4 imm.0) imm.1) imm.2) imm.3 in
    let upto12 = below_more P 11 (below_more P 10 (below_more P 9 (below_more P 8 upto8 reserved.0) reserved.1) reserved.2) reserved.3 in
    below_more P 15 (below_more P 14 (below_more P 13 (below_more P 12 upto12 next.0) next.1) next.2) next.3

slots_le_two : (insn : Insn) → slots_of insn ≤ 2
slots_le_two insn = grind arith

pub one_word : (insn : Insn) (a b : List ℕ) → IsWord insn a → IsWord insn b → a ≡ b
one_word insn a b in_a in_b =
    let same = agree insn _ _ (small_fields a in_a.small) (small_fields b in_b.small) in_a.reads.codes in_b.reads.codes in_a.clean in_b.clean in_a.reads.parts in_b.reads.parts in
    let two = slots_le_two insn in
    let size_a : length a ≡ 8 * slots_of insn = in_a.size in
    let size_b : length b ≡ 8 * slots_of insn = in_b.size in
    same_number_lists a b (size_a ∙ sym size_b) (λ k h. same_at a b in_a.small in_b.small same k (omega arith))

no_rest : (a rest : List ℕ) → length (a ++ rest) ≡ length a → rest ≡ []
no_rest a [] e = refl
no_rest a (x ∷ xs) e = absurd (omega (arith, e, length-append a (x ∷ xs)))

pub none_begins : (i j : Insn) (a rest : List ℕ) → IsWord i a → IsWord j (a ++ rest) → rest ≡ []
none_begins i j a rest in_a in_both =
    let size_a : length a ≡ 8 * slots_of i = in_a.size in
    let size_both : length (a ++ rest) ≡ 8 * slots_of j = in_both.size in
    let wide_i = wide_or_not i in
    let wide_j = wide_or_not j in
    let filled : 0 < length a = omega arith in
    let first : get_or (a ++ rest) 0 0 ≡ get_or a 0 0 = get_or_append_left a rest 0 0 filled in
    let opcode_a : get_or a 0 0 ≡ (row_of i).opcode = in_a.reads.codes.opcode in
    let opcode_both : get_or (a ++ rest) 0 0 ≡ (row_of j).opcode = in_both.reads.codes.opcode in
    let same : slots_of i ≡ slots_of j = omega arith in
    no_rest a rest (omega arith)

-- bytes that read as an instruction are its word, if no second slot is missing
pub whole_word : (bytes : List ℕ) (insn : Insn) → IsRead bytes insn → (length bytes ≡ 8) ⊎ ((length bytes ≡ 16) × (get_or bytes 0 0 ≡ 24)) → (HasWordFault bytes CutOff → ⊥) → IsWord insn bytes
whole_word bytes insn read size whole =
    let slots = wide_or_not insn in
    let opcode : get_or bytes 0 0 ≡ (row_of insn).opcode = read.reads.codes.opcode in
    let is_size : length bytes ≡ 8 * slots_of insn = grind (arith, slots, opcode, size) in
    record { small = read.small; size = is_size; reads = read.reads; clean = read.clean; registers = read.registers }
