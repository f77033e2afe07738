-- What the relocations leave: the size, and the slots that none of them names.
use Rattle.std.proofs.Common.{◌≡◌, ◌<◌, ◌≤◌, ◌⊎◌, inl, inr, ◌+◌, ◌-◌, ◌*◌, ◌/◌, ℕ, zero, suc, Bool, true, false, ◌==◌, List, Ok, length, get_or, refl, sym, ap, ◌∙◌, arith, length-append}
use Rattle.std.proofs.lemmas.List.{get_or-append_right, get_or_append_left}
use Rattle.std.proofs.lemmas.Grind.{common_steps}
use Rattle.bpf_link.specs.declared.parts.Side.{Side}
use Rattle.bpf_link.specs.declared.parts.Side.TheVariants.{Code, Text}
use Rattle.bpf_link.specs.Data.{Numbered}
use Rattle.bpf_link.specs.Parts.{AreParts}
use Rattle.bpf_link.specs.Tables.{relocation_at}
use Rattle.bpf_link.specs.Patches.{width_of, patch_of}
use Rattle.bpf_link.specs.Links.{with_patch, patch_width, with_relocation, relocated, unlinked, words_of}
use Rattle.bpf_link.specs.Laid.{IsPlain}
use Rattle.bpf_link.proofs.Slots.{patched_length, patched_apart}
use Rattle.bpf_link.proofs.Inversions.{count, from, here, ok_same, after_ok, sized, names_slot}

pub size_kept : (placed : Numbered) (side : Side) (words : List ℕ) (n : ℕ) (new : List ℕ)
    → relocated placed side words n ≡ Ok new → 8 * (from placed side + count placed side) ≤ length words → length new ≡ length words
size_kept placed side words zero new e fits = ap length (sym (ok_same words new e))
size_kept placed side words (suc n) new e fits =
    let a = after_ok (relocated placed side words n) (with_relocation placed side n) new e in
    let b = after_ok (patch_of placed side n) (λ patch. Ok (with_patch a.0 patch)) new a.2 in
    let rest : length a.0 ≡ length words = size_kept placed side words n a.0 a.1 fits in
    let slot = names_slot placed side n b.0 b.1 in
    let inside : b.0.at + patch_width b.0 ≤ length a.0 = omega (arith, slot.fits) in
    ap length (sym (ok_same (with_patch a.0 b.0) new b.2)) ∙ patched_length a.0 b.0 inside ∙ rest

-- a place is beside a slot that has two names
pub beside : (x y w v j : ℕ) → y ≡ x → v ≡ w → (j < x) ⊎ (x + w ≤ j) → (j < y) ⊎ (y + v ≤ j)
beside x y w v j same wide (inl low) = inl (omega arith)
beside x y w v j same wide (inr high) = inr (omega arith)

-- a place is apart from the slot of each relocation of a part
pub record Apart (placed : Numbered) (side : Side) (j : ℕ) : Type 0 where
  pub apart : (i q : ℕ) → i < length (here placed side).relocations → q < count placed side → (relocation_at (here placed side).relocations i).offset ≡ 8 * q → 8 * q + width_of (relocation_at (here placed side).relocations i) ≤ 8 * count placed side
      → (j < 8 * (from placed side + q)) ⊎ (8 * (from placed side + q) + width_of (relocation_at (here placed side).relocations i) ≤ j)

pub byte_kept : (placed : Numbered) (side : Side) (words : List ℕ) (n : ℕ) (new : List ℕ) (j : ℕ)
    → relocated placed side words n ≡ Ok new → 8 * (from placed side + count placed side) ≤ length words → n ≤ length (here placed side).relocations → Apart placed side j
    → get_or new j 0 ≡ get_or words j 0
byte_kept placed side words zero new j e fits within apart = ap (λ w. get_or w j 0) (sym (ok_same words new e))
byte_kept placed side words (suc n) new j e fits within apart =
    let a = after_ok (relocated placed side words n) (with_relocation placed side n) new e in
    let b = after_ok (patch_of placed side n) (λ patch. Ok (with_patch a.0 patch)) new a.2 in
    let rest : get_or a.0 j 0 ≡ get_or words j 0 = byte_kept placed side words n a.0 j a.1 fits (omega arith) apart in
    let size : length a.0 ≡ length words = size_kept placed side words n a.0 a.1 fits in
    let slot = names_slot placed side n b.0 b.1 in
    let inside : b.0.at + patch_width b.0 ≤ length a.0 = omega (arith, slot.fits) in
    let q : ℕ = (relocation_at (here placed side).relocations n).offset / 8 in
    let whole : (relocation_at (here placed side).relocations n).offset ≡ 8 * q = omega (arith, slot.whole) in
    let apart_is : (j < 8 * (from placed side + q)) ⊎ (8 * (from placed side + q) + width_of (relocation_at (here placed side).relocations n) ≤ j) = apart.apart n q (omega arith) slot.inside whole (omega (arith, slot.fits, slot.at, slot.width)) in
    ap (λ w. get_or w j 0) (sym (ok_same (with_patch a.0 b.0) new b.2))
    ∙ patched_apart a.0 b.0 j inside (beside (8 * (from placed side + q)) b.0.at (width_of (relocation_at (here placed side).relocations n)) (patch_width b.0) j slot.at slot.width apart_is)
    ∙ rest

-- two slots of a part are apart
slots_apart : (first p q k w : ℕ) → (q ≡ p → ⊥) → (w ≡ 8) ⊎ ((w ≡ 16) × (q + 1 ≡ p → ⊥)) → k < 8 → (8 * (first + p) + k < 8 * (first + q)) ⊎ (8 * (first + q) + w ≤ 8 * (first + p) + k)
slots_apart first p q k w other (inl short) small = grind arith
slots_apart first p q k w other (inr long) small = let wide = long.0 in let next = long.1 in grind arith

one_or_two : (kind : ℕ) (Second : Type 0) (b : Bool) → (kind == 1) ≡ b → (kind ≡ 1 → Second) → (sized b ≡ 8) ⊎ ((sized b ≡ 16) × Second)
one_or_two kind Second true e second = let one : kind ≡ 1 = grind (arith, common_steps) in inr (refl, second one)
one_or_two kind Second false e second = inl refl

pub plain_apart : (placed : Numbered) (side : Side) (p k : ℕ) → k < 8 → IsPlain (here placed side) p → Apart placed side (8 * (from placed side + p) + k)
plain_apart placed side p k small plain = record {
  apart = λ i q within inside at room.
      let relocation = relocation_at (here placed side).relocations i in
      slots_apart (from placed side) p q k (width_of relocation) (λ same. plain.first i within (at ∙ ap (λ n. 8 * n) same))
      (one_or_two relocation.kind (q + 1 ≡ p → ⊥) (relocation.kind == 1) refl (λ one same. plain.second i within one (omega (arith, at, same)))) small;
}

-- a place after the slots of a part
pub behind : (placed : Numbered) (side : Side) (j : ℕ) → 8 * (from placed side + count placed side) ≤ j → Apart placed side j
behind placed side j high = record { apart = λ i q within inside at room. inr (omega arith) }

-- the slots as they stand in the object
abbrev pub raw : Numbered → List ℕ
raw placed = unlinked placed.plan.parts

pub raw_length : (placed : Numbered) → AreParts placed.plan.parts → length (raw placed) ≡ 8 * (count placed Code + count placed Text)
raw_length placed whole = let code = whole.code in let text = whole.text in length-append placed.plan.parts.code.slots placed.plan.parts.text.slots ∙ omega (arith, code, text)

pub raw_code : (placed : Numbered) (j : ℕ) → AreParts placed.plan.parts → j < 8 * count placed Code → get_or (raw placed) j 0 ≡ get_or placed.plan.parts.code.slots j 0
raw_code placed j whole within = let code = whole.code in get_or_append_left placed.plan.parts.code.slots placed.plan.parts.text.slots 0 j (omega (arith, code))

pub raw_text : (placed : Numbered) (i j : ℕ) → AreParts placed.plan.parts → j ≡ 8 * count placed Code + i → get_or (raw placed) j 0 ≡ get_or placed.plan.parts.text.slots i 0
raw_text placed i j whole same =
    let rest : j - 8 * count placed Code ≡ i = omega (arith, same) in
    get_or-append_right placed.plan.parts.code.slots placed.plan.parts.text.slots (8 * count placed Code) j 0 whole.code (omega (arith, same))
    ∙ ap (λ n. get_or placed.plan.parts.text.slots n 0) rest

pub text_behind : (placed : Numbered) (j : ℕ) → j < 8 * count placed Code → Apart placed Text j
text_behind placed j low = record { apart = λ i q within inside at room. inl (omega arith) }

-- both rounds of relocations
pub record Done (placed : Numbered) (words : List ℕ) : Type 0 where
  pub between : List ℕ
  pub code : relocated placed Code (raw placed) (length placed.plan.parts.code.relocations) ≡ Ok between
  pub text : relocated placed Text between (length placed.plan.parts.text.relocations) ≡ Ok words
  pub code_fits : 8 * (from placed Code + count placed Code) ≤ length (raw placed)
  pub text_fits : 8 * (from placed Text + count placed Text) ≤ length between
  pub size : length words ≡ length (raw placed)

pub done : (placed : Numbered) (words : List ℕ) → AreParts placed.plan.parts → words_of placed ≡ Ok words → Done placed words
done placed words whole e =
    let a = after_ok (relocated placed Code (raw placed) (length placed.plan.parts.code.relocations)) (λ new. relocated placed Text new (length placed.plan.parts.text.relocations)) words e in
    let size = raw_length placed whole in
    let code_fits : 8 * (from placed Code + count placed Code) ≤ length (raw placed) = omega (arith, size) in
    let first : length a.0 ≡ length (raw placed) = size_kept placed Code (raw placed) (length placed.plan.parts.code.relocations) a.0 a.1 code_fits in
    let text_fits : 8 * (from placed Text + count placed Text) ≤ length a.0 = omega (arith, size, first) in
    record {
      between = a.0;
      code = a.1;
      text = a.2;
      code_fits = code_fits;
      text_fits = text_fits;
      size = size_kept placed Text a.0 (length placed.plan.parts.text.relocations) words a.2 text_fits ∙ first;
    }

pub both_kept : (placed : Numbered) (words : List ℕ) (j : ℕ) → Done placed words → Apart placed Code j → Apart placed Text j
    → get_or words j 0 ≡ get_or (raw placed) j 0
both_kept placed words j d code text =
    byte_kept placed Text d.between (length placed.plan.parts.text.relocations) words j d.text d.text_fits (omega arith) text
    ∙ byte_kept placed Code (raw placed) (length placed.plan.parts.code.relocations) d.between j d.code d.code_fits (omega arith) code
