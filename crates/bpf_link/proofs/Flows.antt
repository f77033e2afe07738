-- Control goes through the code that comes out as through the code with its calls: relocations of wide loads change nothing of it.
use Rattle.std.proofs.Common.{◌≡◌, ◌≢◌, ◌<◌, ◌≤◌, ◌⊎◌, inl, inr, ℕ, ◌+◌, ◌-◌, ◌*◌, ◌%◌, Bool, true, List, length, get_or, sym, ap, ◌∙◌, arith, get_or-set_other, get_or-set_same}
use Rattle.std.specs.Prelude.{slice_set, Option, Some, None}
use Rattle.bpf_link.specs.declared.patch.Patch.{Patch}
use Rattle.bpf_link.specs.Links.{with_next, with_patch, with_slot, patch_width}
use Rattle.bpf_link.specs.Patches.{with_u32}
use Rattle.bpf_link.specs.Reach.{is_reached}
use Rattle.bpf_link.proofs.Answered.{AreSame}
use Rattle.bpf_link.proofs.Relocated.{u32_inside}
use Rattle.bpf_link.proofs.Slots.{head_kept, patched_apart, patched_length, set_length, slot_apart, u32_high, u32_low, width, at_least}

-- words with the opcodes of others, and a slot that says the same in both of two, or is one of a wide load
abbrev pub HasOpcodes : List ℕ → List ℕ → Type 0
HasOpcodes raw words = (s : ℕ) → get_or words (8 * s) 0 ≡ get_or raw (8 * s) 0

abbrev pub IsLoad : List ℕ → ℕ → Type 0
IsLoad raw s = (get_or raw (8 * s) 0 ≡ 0x18) ⊎ (get_or raw (8 * s) 0 ≡ 0)

abbrev pub IsAlike : List ℕ → List ℕ → List ℕ → ℕ → Type 0
IsAlike raw a b s = AreSame a s b s ⊎ IsLoad raw s

pub record Agree (reach : List Bool) (raw a b : List ℕ) : Type 0 where
  pub size_a : length a ≡ length raw
  pub size_b : length b ≡ length raw
  pub of_a : HasOpcodes raw a
  pub of_b : HasOpcodes raw b
  pub alike : (s : ℕ) → is_reached reach s ≡ true → IsAlike raw a b s

flipped : (raw a b : List ℕ) (s : ℕ) → IsAlike raw a b s → IsAlike raw b a s
flipped raw a b s (inl same) = inl (λ k small. sym (same k small))
flipped raw a b s (inr load) = inr load

pub swapped : (reach : List Bool) (raw a b : List ℕ) → Agree reach raw a b → Agree reach raw b a
swapped reach raw a b g = record { size_a = g.size_b; size_b = g.size_a; of_a = g.of_b; of_b = g.of_a; alike = λ s known. flipped raw a b s (g.alike s known) }

-- a patch changes no opcode
where_is : (at s : ℕ) → at % 8 ≡ 0 → (8 * s < at) ⊎ ((8 * s ≡ at) ⊎ ((8 * s ≡ at + 8) ⊎ (at + 16 ≤ 8 * s)))
where_is at s whole = grind arith

opcode_kept : (words : List ℕ) (patch : Patch) (s : ℕ) → patch.at % 8 ≡ 0 → patch.at + patch_width patch ≤ length words → get_or (with_patch words patch) (8 * s) 0 ≡ get_or words (8 * s) 0
opcode_kept words patch s whole fits = by (where_is patch.at s whole)
  where
    least : 8 ≤ width patch.next
    least = at_least patch.next

    most : (next : Option ℕ) → width next ≤ 16
    most None = omega arith
    most (Some n) = omega arith

    by : (8 * s < patch.at) ⊎ ((8 * s ≡ patch.at) ⊎ ((8 * s ≡ patch.at + 8) ⊎ (patch.at + 16 ≤ 8 * s))) → get_or (with_patch words patch) (8 * s) 0 ≡ get_or words (8 * s) 0
    by (inl low) = patched_apart words patch (8 * s) fits (inl low)
    by (inr (inl here)) =
        let eight = least in
        let size = set_length words (patch.at + 1) patch.registers in
        let other : 8 * s ≢ patch.at + 1 = omega (arith, here) in
        head_kept words patch (8 * s) fits (omega (arith, here))
        ∙ u32_low (slice_set words (patch.at + 1) patch.registers) (patch.at + 4) patch.imm (8 * s) (omega (arith, size, fits, eight)) (omega (arith, here))
        ∙ get_or-set_other words (patch.at + 1) (8 * s) patch.registers 0 other
    by (inr (inr (inl second))) =
        let eight = least in
        head_kept words patch (8 * s) fits (omega (arith, second)) ∙ slot_apart words patch (8 * s) (omega (arith, fits, eight)) (inr (omega (arith, second)))
    by (inr (inr (inr high))) = let sixteen = most patch.next in patched_apart words patch (8 * s) fits (inr (omega (arith, sixteen, high)))

-- one side is patched, where nothing that is reached says another thing then
abbrev pub Beside : Patch → ℕ → Type 0
Beside patch s = (8 * s + 8 ≤ patch.at) ⊎ (patch.at + patch_width patch ≤ 8 * s)

slot_kept : (words : List ℕ) (patch : Patch) (s : ℕ) → patch.at + patch_width patch ≤ length words → Beside patch s → AreSame words s (with_patch words patch) s
slot_kept words patch s fits (inl low) = λ k small. sym (patched_apart words patch (8 * s + k) fits (inl (omega (arith, low, small))))
slot_kept words patch s fits (inr high) = λ k small. sym (patched_apart words patch (8 * s + k) fits (inr (omega (arith, high))))

one_alike : (raw a b : List ℕ) (patch : Patch) (s : ℕ) → patch.at + patch_width patch ≤ length b → Beside patch s ⊎ IsLoad raw s → IsAlike raw a b s → IsAlike raw a (with_patch b patch) s
one_alike raw a b patch s fits (inr load) known = inr load
one_alike raw a b patch s fits (inl beside) (inl same) = let kept = slot_kept b patch s fits beside in inl (λ k small. same k small ∙ kept k small)
one_alike raw a b patch s fits (inl beside) (inr load) = inr load

pub second : (reach : List Bool) (raw a b : List ℕ) (patch : Patch) → Agree reach raw a b → patch.at % 8 ≡ 0 → patch.at + patch_width patch ≤ length raw
    → ((s : ℕ) → is_reached reach s ≡ true → Beside patch s ⊎ IsLoad raw s) → Agree reach raw a (with_patch b patch)
second reach raw a b patch g whole fits apart =
    let inside : patch.at + patch_width patch ≤ length b = (let size = g.size_b in omega (arith, size, fits)) in
    record {
      size_a = g.size_a;
      size_b = patched_length b patch inside ∙ g.size_b;
      of_a = g.of_a;
      of_b = λ s. opcode_kept b patch s whole inside ∙ g.of_b s;
      alike = λ s known. one_alike raw a b patch s inside (apart s known) (g.alike s known);
    }

pub first : (reach : List Bool) (raw a b : List ℕ) (patch : Patch) → Agree reach raw a b → patch.at % 8 ≡ 0 → patch.at + patch_width patch ≤ length raw
    → ((s : ℕ) → is_reached reach s ≡ true → Beside patch s ⊎ IsLoad raw s) → Agree reach raw (with_patch a patch) b
first reach raw a b patch g whole fits apart =
    swapped reach raw b (with_patch a patch) (second reach raw b a patch (swapped reach raw a b g) whole fits apart)

-- both are patched
set_alike : (a b : List ℕ) (i x j : ℕ) → i < length a → i < length b → (j ≡ i) ⊎ (j ≢ i) → get_or a j 0 ≡ get_or b j 0 → get_or (slice_set a i x) j 0 ≡ get_or (slice_set b i x) j 0
set_alike a b i x j in_a in_b (inl here) same =
    ap (λ k. get_or (slice_set a i x) k 0) here ∙ get_or-set_same a i x 0 in_a ∙ sym (get_or-set_same b i x 0 in_b) ∙ ap (λ k. get_or (slice_set b i x) k 0) (sym here)
set_alike a b i x j in_a in_b (inr other) same = get_or-set_other a i j x 0 other ∙ same ∙ sym (get_or-set_other b i j x 0 other)

u32_alike : (a b : List ℕ) (at n j : ℕ) → at + 4 ≤ length a → at + 4 ≤ length b → (j < at) ⊎ ((at + 4 ≤ j) ⊎ ((k : ℕ) × (k < 4) × (j ≡ at + k))) → get_or a j 0 ≡ get_or b j 0
    → get_or (with_u32 a at n) j 0 ≡ get_or (with_u32 b at n) j 0
u32_alike a b at n j in_a in_b (inl low) same = u32_low a at n j in_a low ∙ same ∙ sym (u32_low b at n j in_b low)
u32_alike a b at n j in_a in_b (inr (inl high)) same = u32_high a at n j in_a high ∙ same ∙ sym (u32_high b at n j in_b high)
u32_alike a b at n j in_a in_b (inr (inr (k, small, here))) same =
    ap (λ i. get_or (with_u32 a at n) i 0) here ∙ u32_inside a at n k in_a small ∙ sym (u32_inside b at n k in_b small) ∙ ap (λ i. get_or (with_u32 b at n) i 0) (sym here)

here_or : (j i : ℕ) → (j ≡ i) ⊎ (j ≢ i)
here_or j i = grind arith

three : (j at : ℕ) → (j < at) ⊎ ((at + 4 ≤ j) ⊎ ((at ≤ j) × (j < at + 4)))
three j at = grind arith

place : (j at : ℕ) → (j < at) ⊎ ((at + 4 ≤ j) ⊎ ((k : ℕ) × (k < 4) × (j ≡ at + k)))
place j at = by (three j at)
  where
    by : (j < at) ⊎ ((at + 4 ≤ j) ⊎ ((at ≤ j) × (j < at + 4))) → (j < at) ⊎ ((at + 4 ≤ j) ⊎ ((k : ℕ) × (k < 4) × (j ≡ at + k)))
    by (inl low) = inl low
    by (inr (inl high)) = inr (inl high)
    by (inr (inr within)) = let from = within.0 in let to = within.1 in inr (inr (j - at, omega (arith, from, to), omega (arith, from)))

both_alike : (a b : List ℕ) (patch : Patch) (j : ℕ) → patch.next ≡ None → patch.at + 8 ≤ length a → patch.at + 8 ≤ length b → get_or a j 0 ≡ get_or b j 0
    → get_or (with_patch a patch) j 0 ≡ get_or (with_patch b patch) j 0
both_alike a b patch j none in_a in_b same =
    let size_a = set_length a (patch.at + 1) patch.registers in
    let size_b = set_length b (patch.at + 1) patch.registers in
    ap (λ next. get_or (with_next (with_slot a patch) patch.at next) j 0) none
    ∙ u32_alike (slice_set a (patch.at + 1) patch.registers) (slice_set b (patch.at + 1) patch.registers) (patch.at + 4) patch.imm j (omega (arith, size_a)) (omega (arith, size_b)) (place j (patch.at + 4))
    (set_alike a b (patch.at + 1) patch.registers j (omega arith) (omega arith) (here_or j (patch.at + 1)) same)
    ∙ sym (ap (λ next. get_or (with_next (with_slot b patch) patch.at next) j 0) none)

two_alike : (raw a b : List ℕ) (patch : Patch) (s : ℕ) → patch.next ≡ None → patch.at + 8 ≤ length a → patch.at + 8 ≤ length b → IsAlike raw a b s → IsAlike raw (with_patch a patch) (with_patch b patch) s
two_alike raw a b patch s none in_a in_b (inl same) = inl (λ k small. both_alike a b patch (8 * s + k) none in_a in_b (same k small))
two_alike raw a b patch s none in_a in_b (inr load) = inr load

pub both : (reach : List Bool) (raw a b : List ℕ) (patch : Patch) → Agree reach raw a b → patch.at % 8 ≡ 0 → patch.at + 8 ≤ length raw → patch.next ≡ None
    → Agree reach raw (with_patch a patch) (with_patch b patch)
both reach raw a b patch g whole fits none =
    let in_a : patch.at + 8 ≤ length a = (let size = g.size_a in omega (arith, size, fits)) in
    let in_b : patch.at + 8 ≤ length b = (let size = g.size_b in omega (arith, size, fits)) in
    let eight : patch_width patch ≡ 8 = ap width none in
    let wide_a : patch.at + patch_width patch ≤ length a = omega (arith, in_a, eight) in
    let wide_b : patch.at + patch_width patch ≤ length b = omega (arith, in_b, eight) in
    record {
      size_a = patched_length a patch wide_a ∙ g.size_a;
      size_b = patched_length b patch wide_b ∙ g.size_b;
      of_a = λ s. opcode_kept a patch s whole wide_a ∙ g.of_a s;
      of_b = λ s. opcode_kept b patch s whole wide_b ∙ g.of_b s;
      alike = λ s known. two_alike raw a b patch s none in_a in_b (g.alike s known);
    }
