-- Which instruction stands at a slot of a program, by the bytes there: those of a setup.
use Rattle.std.proofs.Common.{◌≡◌, ◌<◌, ◌+◌, ◌*◌, ◌%◌, ◌==◌, ℕ, true, false, List, [], ◌∷◌, ◌++◌, Option, Some, None, length, get_or, refl, sym, ap, subst, ◌∙◌, arith}
use Rattle.std.specs.Prelude.{All, IsSome, drop, take, slice_index, if◌then◌else◌}
use Rattle.std.specs.Int.{w16, w32, cast_signed}
use Rattle.std.proofs.Math.Seq.{drop-append_seam, take-append_seam}
use Rattle.std.proofs.lemmas.List.{get_or-append-add}
use Rattle.std.proofs.lemmas.List.Elements.{All-get_or}
use Rattle.bpf_isa.specs.declared.instruction.BinaryOp.TheVariants.{Mov}
use Rattle.bpf_isa.specs.declared.instruction.Insn.{Insn}
use Rattle.bpf_isa.specs.declared.instruction.Insn.TheVariants.{Binary, JumpLong, LoadWide, Store}
use Rattle.bpf_isa.specs.declared.instruction.Size.TheVariants.{Double}
use Rattle.bpf_isa.specs.declared.instruction.Source.TheVariants.{Immediate, Register}
use Rattle.bpf_isa.specs.declared.instruction.WideValue.TheVariants.{Number, MapValue}
use Rattle.bpf_isa.specs.declared.instruction.Width.TheVariants.{Bits64}
use Rattle.bpf_isa.specs.Checker.{is_wide_at, piece_at}
use Rattle.bpf_isa.specs.Programs.{Checked, insn_at, IsStart, IsProgram}
use Rattle.bpf_isa.specs.Words.{fields_of, u32_at, ReadsAs}
use Rattle.bpf_link_laws.proofs.Numbers.{number_of}
use Rattle.bpf_link_laws.proofs.Spelled.{is_place, is_number, is_store, is_move, is_jump}

-- Bytes stand from a slot on.
pub record Stands (bytes : List ℕ) (p : ℕ) (words : List ℕ) : Type 0 where
  pub before : List ℕ
  pub behind : List ℕ
  pub place : length before ≡ 8 * p
  pub whole : bytes ≡ before ++ (words ++ behind)

from_there : (bytes : List ℕ) (p : ℕ) (words : List ℕ) (s : Stands bytes p words) → drop (8 * p) bytes ≡ words ++ s.behind
from_there bytes p words s =
    ap (λ n. drop n bytes) (sym s.place) ∙ ap (drop (length s.before)) s.whole ∙ drop-append_seam s.before (words ++ s.behind)

first_there : (bytes : List ℕ) (p o : ℕ) (words : List ℕ) → Stands bytes p (o ∷ words) → slice_index bytes (8 * p) ≡ o
first_there bytes p o words s =
    let place : 8 * p ≡ length s.before + 0 = omega (arith, s.place) in
    ap (λ n. get_or bytes n 0) place
    ∙ ap (λ bs. get_or bs (length s.before + 0) 0) s.whole
    ∙ get_or-append-add s.before ((o ∷ words) ++ s.behind) 0 0

take_all : (words behind : List ℕ) (n : ℕ) → length words ≡ n → take n (words ++ behind) ≡ words
take_all words behind n e = ap (λ k. take k (words ++ behind)) (sym e) ∙ take-append_seam words behind

wide_piece : (bytes : List ℕ) (p : ℕ) (words : List ℕ) → Stands bytes p (0x18 ∷ words) → length (0x18 ∷ words) ≡ 16 → piece_at bytes p ≡ 0x18 ∷ words
wide_piece bytes p words s size =
    let wide : is_wide_at bytes p ≡ true = ap (λ n. n == 0x18) (first_there bytes p 0x18 words s) in
    ap (λ b. take (if b then 16 else 8) (drop (8 * p) bytes)) wide
    ∙ ap (take 16) (from_there bytes p (0x18 ∷ words) s)
    ∙ take_all (0x18 ∷ words) s.behind 16 size

narrow_piece : (bytes : List ℕ) (p o : ℕ) (words : List ℕ) → Stands bytes p (o ∷ words) → (o == 0x18) ≡ false → length (o ∷ words) ≡ 8 → piece_at bytes p ≡ o ∷ words
narrow_piece bytes p o words s other size =
    let narrow : is_wide_at bytes p ≡ false = ap (λ n. n == 0x18) (first_there bytes p o words s) ∙ other in
    ap (λ b. take (if b then 16 else 8) (drop (8 * p) bytes)) narrow
    ∙ ap (take 8) (from_there bytes p (o ∷ words) s)
    ∙ take_all (o ∷ words) s.behind 8 size

-- What starts at a slot reads as its bytes say.
record Found (program : Checked) (p : ℕ) (bytes : List ℕ) : Type 0 where
  insn : Insn
  is : insn_at program p ≡ Some insn
  reads : ReadsAs (fields_of bytes) insn

some_there : {A : Type 0} (found : Option A) → IsSome found → (x : A) × (found ≡ Some x)
some_there None h = cc
some_there (Some x) h = (x, refl)

found : (program : Checked) (p : ℕ) (words : List ℕ) → IsProgram program → IsStart program p → piece_at program.bytes p ≡ words → Found program p words
found program p words is start e =
    let there = some_there (insn_at program p) start in
    record {
      insn = there.0;
      is = there.1;
      reads = subst (λ bs. ReadsAs (fields_of bs) there.0) e ((is.words p there.0 there.1).reads);
    }

-- `ldmapval r3, MAP, AT`.
abbrev pub place_bytes : ℕ → ℕ → List ℕ
place_bytes map high = 0x18 ∷ (0x63 ∷ (0 ∷ (0 ∷ (map ∷ (0 ∷ (0 ∷ (0 ∷ (0 ∷ (0 ∷ (0 ∷ (0 ∷ (0 ∷ (high ∷ (0 ∷ (0 ∷ [])))))))))))))))

pub place_here : (program : Checked) (p map high : ℕ) → IsProgram program → IsStart program p → Stands program.bytes p (place_bytes map high) → insn_at program p ≡ Some (LoadWide 3 (MapValue map (256 * high)))
place_here program p map high is start s =
    let there = found program p (place_bytes map high) is start (wide_piece program.bytes p _ s refl) in
    let imm : u32_at (place_bytes map high) 4 ≡ map = omega arith in
    let next : u32_at (place_bytes map high) 12 ≡ 256 * high = omega arith in
    there.is
    ∙ ap Some (is_place (fields_of (place_bytes map high)) there.insn refl refl there.reads)
    ∙ ap (λ n. Some (LoadWide 3 (MapValue n (u32_at (place_bytes map high) 12)))) imm
    ∙ ap (λ n. Some (LoadWide 3 (MapValue map n))) next

-- `lddw r4, NUMBER`.
abbrev pub number_bytes : ℕ → ℕ → ℕ → ℕ → ℕ → ℕ → ℕ → ℕ → List ℕ
number_bytes a b c d e f g h = 0x18 ∷ (0x04 ∷ (0 ∷ (0 ∷ (a ∷ (b ∷ (c ∷ (d ∷ (0 ∷ (0 ∷ (0 ∷ (0 ∷ (e ∷ (f ∷ (g ∷ (h ∷ [])))))))))))))))

-- Its bytes are below 256, as all of a program are.
pub record AreSmall (a b c d e f g h : ℕ) : Type 0 where
  pub small_a : a < 256
  pub small_b : b < 256
  pub small_c : c < 256
  pub small_d : d < 256
  pub small_e : e < 256
  pub small_f : f < 256
  pub small_g : g < 256
  pub small_h : h < 256

pub small_here : (program : Checked) (p a b c d e f g h : ℕ) → IsProgram program → IsStart program p → Stands program.bytes p (number_bytes a b c d e f g h) → AreSmall a b c d e f g h
small_here program p a b c d e f g h is start s =
    let there = some_there (insn_at program p) start in
    let words = number_bytes a b c d e f g h in
    let all : All (λ byte. byte < 256) words = subst (All (λ byte. byte < 256)) (wide_piece program.bytes p _ s refl) ((is.words p there.0 there.1).small) in
    record {
      small_a = All-get_or (λ byte. byte < 256) words 4 0 (omega arith) all;
      small_b = All-get_or (λ byte. byte < 256) words 5 0 (omega arith) all;
      small_c = All-get_or (λ byte. byte < 256) words 6 0 (omega arith) all;
      small_d = All-get_or (λ byte. byte < 256) words 7 0 (omega arith) all;
      small_e = All-get_or (λ byte. byte < 256) words 12 0 (omega arith) all;
      small_f = All-get_or (λ byte. byte < 256) words 13 0 (omega arith) all;
      small_g = All-get_or (λ byte. byte < 256) words 14 0 (omega arith) all;
      small_h = All-get_or (λ byte. byte < 256) words 15 0 (omega arith) all;
    }

pub number_here : (program : Checked) (p a b c d e f g h : ℕ) → IsProgram program → IsStart program p → Stands program.bytes p (number_bytes a b c d e f g h) → insn_at program p ≡ Some (LoadWide 4 (Number (number_of a b c d e f g h)))
number_here program p a b c d e f g h is start s =
    let there = found program p (number_bytes a b c d e f g h) is start (wide_piece program.bytes p _ s refl) in
    there.is ∙ ap Some (is_number (fields_of (number_bytes a b c d e f g h)) there.insn refl refl there.reads)

-- `stxdw [r3+OFFSET], r4`.
abbrev pub store_bytes : ℕ → ℕ → List ℕ
store_bytes low high = 0x7b ∷ (0x43 ∷ (low ∷ (high ∷ (0 ∷ (0 ∷ (0 ∷ (0 ∷ [])))))))

pub store_here : (program : Checked) (p low high : ℕ) → IsProgram program → IsStart program p → Stands program.bytes p (store_bytes low high) → insn_at program p ≡ Some (Store Double (record { base = 3; offset = cast_signed w16 (low + 256 * high) }) (Register 4))
store_here program p low high is start s =
    let there = found program p (store_bytes low high) is start (narrow_piece program.bytes p _ _ s refl refl) in
    there.is ∙ ap Some (is_store (fields_of (store_bytes low high)) there.insn refl there.reads)

-- `mov r3, 0` and `mov r4, 0`.
abbrev pub move_bytes : ℕ → List ℕ
move_bytes register = 0xb7 ∷ (register ∷ (0 ∷ (0 ∷ (0 ∷ (0 ∷ (0 ∷ (0 ∷ [])))))))

pub move_here : (program : Checked) (p r : ℕ) → IsProgram program → IsStart program p → r < 10 → Stands program.bytes p (move_bytes r) → insn_at program p ≡ Some (Binary Mov Bits64 r (Immediate (cast_signed w32 0)))
move_here program p r is start low s =
    let there = found program p (move_bytes r) is start (narrow_piece program.bytes p _ _ s refl refl) in
    let same : r % 16 ≡ r = omega arith in
    there.is
    ∙ ap Some (is_move (fields_of (move_bytes r)) there.insn refl there.reads)
    ∙ ap (λ n. Some (Binary Mov Bits64 n (Immediate (cast_signed w32 0)))) same

-- `ja32 DISTANCE`.
abbrev pub jump_bytes : ℕ → ℕ → ℕ → ℕ → List ℕ
jump_bytes a b c d = 0x06 ∷ (0 ∷ (0 ∷ (0 ∷ (a ∷ (b ∷ (c ∷ (d ∷ [])))))))

pub jump_here : (program : Checked) (p a b c d : ℕ) → IsProgram program → IsStart program p → Stands program.bytes p (jump_bytes a b c d) → insn_at program p ≡ Some (JumpLong (cast_signed w32 ((a + 256 * b) + 65536 * (c + 256 * d))))
jump_here program p a b c d is start s =
    let there = found program p (jump_bytes a b c d) is start (narrow_piece program.bytes p _ _ s refl refl) in
    there.is ∙ ap Some (is_jump (fields_of (jump_bytes a b c d)) there.insn refl there.reads)
