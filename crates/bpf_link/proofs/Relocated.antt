-- What the relocations leave in the slots that they name.
use Rattle.std.proofs.Common.{◌≡◌, ◌≢◌, ◌<◌, ◌≤◌, ◌⊎◌, inl, inr, ◌+◌, ◌-◌, ◌*◌, ◌/◌, ◌==◌, nat_lt, Bool, true, false, ℕ, zero, suc, List, ◌++◌, Ok, length, take, drop, get_or, refl, sym, ap, ◌∙◌, subst, arith, add-zero, add-suc, zero-add, get_or-set_other, get_or-set_same}
use Rattle.std.specs.Prelude.{slice_set, ◌||◌, Some, is_some, if◌then◌else◌}
use Rattle.std.proofs.lemmas.List.{get_or-append_right, get_or_append_left}
use Rattle.std.proofs.lemmas.Grind.{common_steps}
use Rattle.byteorder.specs.Endian.{little_bytes}
use Rattle.byteorder.specs.Numbers.{length-bytes_low_first}
use Rattle.bpf_link.specs.declared.fault.LinkFault.TheVariants.{Place}
use Rattle.bpf_link.specs.declared.layout.RelocationEntry.{RelocationEntry}
use Rattle.bpf_link.specs.declared.parts.Side.{Side}
use Rattle.bpf_link.specs.declared.patch.Patch.{Patch}
use Rattle.bpf_link.specs.Data.{Numbered}
use Rattle.bpf_link.specs.Tables.{relocation_at}
use Rattle.bpf_link.specs.Patches.{width_of, is_next, patch_of}
use Rattle.bpf_link.specs.Patches.{with_u32}
use Rattle.bpf_link.specs.Links.{with_slot, with_next, with_patch, patch_width, with_relocation, relocated}
use Rattle.bpf_link.specs.Laid.{patched_slot, next_slot, IsDone}
use Rattle.bpf_link.proofs.Slots.{set_length, slot_length, slot_apart, at_least, head_kept, patched_apart, u32_low}
use Rattle.bpf_link.proofs.Inversions.{count, from, here, ok_same, after_ok, provided_ok, two_sizes, names_slot}
use Rattle.bpf_link.proofs.LaidOut.{size_kept, beside}

-- a number in its four bytes
pub u32_inside : (bytes : List ℕ) (at n k : ℕ) → at + 4 ≤ length bytes → k < 4 → get_or (with_u32 bytes at n) (at + k) 0 ≡ get_or (little_bytes 4 n) k 0
u32_inside bytes at n k fits small =
    let size : length (take at bytes) ≡ at = grind (arith, common_steps) in
    let four : length (little_bytes 4 n) ≡ 4 = length-bytes_low_first 0 4 n in
    let rest : at + k - at ≡ k = omega arith in
    get_or-append_right (take at bytes) (little_bytes 4 n ++ drop (at + 4) bytes) at (at + k) 0 size (omega arith)
    ∙ ap (λ i. get_or (little_bytes 4 n ++ drop (at + 4) bytes) i 0) rest
    ∙ get_or_append_left (little_bytes 4 n) (drop (at + 4) bytes) 0 k (omega arith)

-- the bytes of a patched slot: those before imm, and imm
patched_head : (bytes : List ℕ) (patch : Patch) (k : ℕ) → patch.at + 8 ≤ length bytes → k < 4 → k ≢ 1 → get_or (with_slot bytes patch) (patch.at + k) 0 ≡ get_or bytes (patch.at + k) 0
patched_head bytes patch k fits small other =
    let size = set_length bytes (patch.at + 1) patch.registers in
    let apart : patch.at + k ≢ patch.at + 1 = omega arith in
    u32_low (slice_set bytes (patch.at + 1) patch.registers) (patch.at + 4) patch.imm (patch.at + k) (omega arith) (omega arith)
    ∙ get_or-set_other bytes (patch.at + 1) (patch.at + k) patch.registers 0 apart

patched_registers : (bytes : List ℕ) (patch : Patch) → patch.at + 8 ≤ length bytes → get_or (with_slot bytes patch) (patch.at + 1) 0 ≡ patch.registers
patched_registers bytes patch fits =
    let size = set_length bytes (patch.at + 1) patch.registers in
    u32_low (slice_set bytes (patch.at + 1) patch.registers) (patch.at + 4) patch.imm (patch.at + 1) (omega arith) (omega arith)
    ∙ get_or-set_same bytes (patch.at + 1) patch.registers 0 (omega arith)

patched_imm : (bytes : List ℕ) (patch : Patch) (k : ℕ) → patch.at + 8 ≤ length bytes → k < 4 → get_or (with_slot bytes patch) (patch.at + (4 + k)) 0 ≡ get_or (little_bytes 4 patch.imm) k 0
patched_imm bytes patch k fits small =
    let size = set_length bytes (patch.at + 1) patch.registers in
    ap (λ i. get_or (with_slot bytes patch) i 0) (omega arith)
    ∙ u32_inside (slice_set bytes (patch.at + 1) patch.registers) (patch.at + 4) patch.imm k (omega arith) small

-- relocations that come to patches ascend
first_or_after : (i x y : ℕ) (b : Bool) → nat_lt x y ≡ b → ((i == 0) || b) ≡ true → 0 < i → x < y
first_or_after i x y b e h above = grind (arith, common_steps)

abbrev width_at : Numbered → Side → ℕ → ℕ
width_at placed side i = width_of (relocation_at (here placed side).relocations i)

cases : (i n : ℕ) → i < suc n → (i < n) ⊎ (i ≡ n)
cases i n h = grind arith

before_last : (i n : ℕ) → i < n → (i < n - 1) ⊎ (i ≡ n - 1)
before_last i n h = grind arith

abbrev offset_at : Numbered → Side → ℕ → ℕ
offset_at placed side i = (relocation_at (here placed side).relocations i).offset

next_above : (placed : Numbered) (side : Side) (n : ℕ) (patch : Patch) → patch_of placed side n ≡ Ok patch → 0 < n
    → offset_at placed side (n - 1) + width_at placed side (n - 1) - 8 < offset_at placed side n
next_above placed side n patch e above =
    let end : ℕ = offset_at placed side (n - 1) + width_at placed side (n - 1) - 8 in
    first_or_after n end (offset_at placed side n) (nat_lt end (offset_at placed side n)) refl
    (provided_ok (is_next (here placed side).relocations n) Place _ _ e).0 above

eight_or : (b : Bool) → 8 ≤ (if b then 16 else 8)
eight_or true = omega arith
eight_or false = omega arith

eight : (relocation : RelocationEntry) → 8 ≤ width_of relocation
eight relocation = eight_or (relocation.kind == 1)

ascends : (placed : Numbered) (side : Side) (words : List ℕ) (n : ℕ) (new : List ℕ) → relocated placed side words n ≡ Ok new
    → (i m : ℕ) → i < m → m < n → offset_at placed side i + width_at placed side i - 8 < offset_at placed side m
ascends placed side words zero new e i m low high = absurd (omega arith)
ascends placed side words (suc n) new e i m low high =
    let a = after_ok (relocated placed side words n) (with_relocation placed side n) new e in
    let b = after_ok (patch_of placed side n) (λ patch. Ok (with_patch a.0 patch)) new a.2 in
    let rest : (i m : ℕ) → i < m → m < n → offset_at placed side i + width_at placed side i - 8 < offset_at placed side m = ascends placed side words n a.0 a.1 in
    by_case (cases m n high) rest (next_above placed side n b.0 b.1)
  where
    to_last : (i < n - 1) ⊎ (i ≡ n - 1) → i < n → ((i m : ℕ) → i < m → m < n → offset_at placed side i + width_at placed side i - 8 < offset_at placed side m)
        → (0 < n → offset_at placed side (n - 1) + width_at placed side (n - 1) - 8 < offset_at placed side n) → offset_at placed side i + width_at placed side i - 8 < offset_at placed side n
    to_last (inl lower) inside rest next = let last = next (omega arith) in let first = rest i (n - 1) lower (omega arith) in let wide = eight (relocation_at (here placed side).relocations (n - 1)) in omega (arith, first, last, wide)
    to_last (inr same) inside rest next = let last = next (omega arith) in subst (λ k. offset_at placed side k + width_at placed side k - 8 < offset_at placed side n) (sym same) last

    by_case : (m < n) ⊎ (m ≡ n) → ((i m : ℕ) → i < m → m < n → offset_at placed side i + width_at placed side i - 8 < offset_at placed side m)
        → (0 < n → offset_at placed side (n - 1) + width_at placed side (n - 1) - 8 < offset_at placed side n) → offset_at placed side i + width_at placed side i - 8 < offset_at placed side m
    by_case (inl h) rest next = rest i m low h
    by_case (inr same) rest next = subst (λ k. offset_at placed side i + width_at placed side i - 8 < offset_at placed side k) (sym same) (to_last (before_last i n (omega arith)) (omega arith) rest next)

kept_later : (placed : Numbered) (side : Side) (words : List ℕ) (m d : ℕ) (a b : List ℕ) (j : ℕ)
    → relocated placed side words m ≡ Ok a → relocated placed side words (m + d) ≡ Ok b → 8 * (from placed side + count placed side) ≤ length words
    → ((i q : ℕ) → m ≤ i → i < m + d → q < count placed side → offset_at placed side i ≡ 8 * q → (j < 8 * (from placed side + q)) ⊎ (8 * (from placed side + q) + width_at placed side i ≤ j))
    → get_or b j 0 ≡ get_or a j 0
kept_later placed side words m zero a b j ra rb fits apart =
    ap (λ w. get_or w j 0) (sym (ok_same a b (sym ra ∙ sym (ap (relocated placed side words) (add-zero m)) ∙ rb)))
kept_later placed side words m (suc d) a b j ra rb fits apart =
    let e : relocated placed side words (suc (m + d)) ≡ Ok b = sym (ap (relocated placed side words) (add-suc m d)) ∙ rb in
    let f = after_ok (relocated placed side words (m + d)) (with_relocation placed side (m + d)) b e in
    let g = after_ok (patch_of placed side (m + d)) (λ patch. Ok (with_patch f.0 patch)) b f.2 in
    let rest : get_or f.0 j 0 ≡ get_or a j 0 = kept_later placed side words m d a f.0 j ra f.1 fits (λ i q low high. apart i q low (omega arith)) in
    let size : length f.0 ≡ length words = size_kept placed side words (m + d) f.0 f.1 fits in
    let slot = names_slot placed side (m + d) g.0 g.1 in
    let inside : g.0.at + patch_width g.0 ≤ length f.0 = omega (arith, slot.fits) in
    let q : ℕ = offset_at placed side (m + d) / 8 in
    let whole : offset_at placed side (m + d) ≡ 8 * q = omega (arith, slot.whole) in
    let apart_is : (j < 8 * (from placed side + q)) ⊎ (8 * (from placed side + q) + width_at placed side (m + d) ≤ j) = apart (m + d) q (omega arith) (omega arith) slot.inside whole in
    ap (λ w. get_or w j 0) (sym (ok_same (with_patch f.0 g.0) b g.2))
    ∙ patched_apart f.0 g.0 j inside (beside (8 * (from placed side + q)) g.0.at (width_at placed side (m + d)) (patch_width g.0) j slot.at slot.width apart_is)
    ∙ rest

state_at : (placed : Numbered) (side : Side) (words : List ℕ) (m d : ℕ) (new : List ℕ) → relocated placed side words (m + d) ≡ Ok new
    → (w : List ℕ) × (relocated placed side words m ≡ Ok w)
state_at placed side words m zero new e = (new, sym (ap (relocated placed side words) (add-zero m)) ∙ e)
state_at placed side words m (suc d) new e =
    let step : relocated placed side words (suc (m + d)) ≡ Ok new = sym (ap (relocated placed side words) (add-suc m d)) ∙ e in
    let f = after_ok (relocated placed side words (m + d)) (with_relocation placed side (m + d)) new step in
    state_at placed side words m d f.0 f.1

slot_byte : (object w : List ℕ) (patch : Patch) (at k : ℕ) → patch.at + 8 ≤ length w → ((k : ℕ) → k < 8 → get_or w (patch.at + k) 0 ≡ get_or object (at + k) 0) → k < 8
    → get_or (with_slot w patch) (patch.at + k) 0 ≡ get_or (patched_slot object at patch) k 0
slot_byte object w patch at zero fits same small = patched_head w patch 0 fits (omega arith) (omega arith) ∙ same 0 (omega arith) ∙ ap (λ i. get_or object i 0) (add-zero at)
slot_byte object w patch at (suc zero) fits same small = patched_registers w patch fits
slot_byte object w patch at (suc (suc zero)) fits same small = patched_head w patch 2 fits (omega arith) (omega arith) ∙ same 2 (omega arith)
slot_byte object w patch at (suc (suc (suc zero))) fits same small = patched_head w patch 3 fits (omega arith) (omega arith) ∙ same 3 (omega arith)
slot_byte object w patch at (suc (suc (suc (suc k)))) fits same small =
    ap (λ i. get_or (with_slot w patch) i 0) (omega arith) ∙ patched_imm w patch k fits (omega arith)

-- the bytes of the slot after it, of a wide load
next_bytes : (object w : List ℕ) (at next place k : ℕ) → at + 16 ≤ length w → ((k : ℕ) → k < 4 → get_or w (at + 8 + k) 0 ≡ get_or object (place + k) 0) → k < 8
    → get_or (with_next w at (Some next)) (at + 8 + k) 0 ≡ get_or (next_slot object place next) k 0
next_bytes object w at next place zero fits same small = u32_low w (at + 12) next (at + 8 + 0) (omega arith) (omega arith) ∙ same 0 (omega arith) ∙ ap (λ i. get_or object i 0) (add-zero place)
next_bytes object w at next place (suc zero) fits same small = u32_low w (at + 12) next (at + 8 + 1) (omega arith) (omega arith) ∙ same 1 (omega arith)
next_bytes object w at next place (suc (suc zero)) fits same small = u32_low w (at + 12) next (at + 8 + 2) (omega arith) (omega arith) ∙ same 2 (omega arith)
next_bytes object w at next place (suc (suc (suc zero))) fits same small = u32_low w (at + 12) next (at + 8 + 3) (omega arith) (omega arith) ∙ same 3 (omega arith)
next_bytes object w at next place (suc (suc (suc (suc k)))) fits same small =
    ap (λ i. get_or (with_next w at (Some next)) i 0) (omega arith) ∙ u32_inside w (at + 12) next k (omega arith) (omega arith)

next_byte : (object w : List ℕ) (patch : Patch) (next place k : ℕ) → patch.next ≡ Some next → patch.at + patch_width patch ≤ length w
    → ((k : ℕ) → k < 4 → get_or w (patch.at + 8 + k) 0 ≡ get_or object (place + k) 0) → k < 8
    → get_or (with_patch w patch) (patch.at + 8 + k) 0 ≡ get_or (next_slot object place next) k 0
next_byte object w patch next place k e fits same small =
    let wide : patch_width patch ≡ 16 = ap (λ n. if is_some n then 16 else 8) e in
    let size : length (with_slot w patch) ≡ length w = slot_length w patch (omega arith) in
    ap (λ n. get_or (with_next (with_slot w patch) patch.at n) (patch.at + 8 + k) 0) e
    ∙ next_bytes object (with_slot w patch) patch.at next place k (omega arith)
    (λ k low. slot_apart w patch (patch.at + 8 + k) (omega arith) (inr (omega arith)) ∙ same k low) small

-- what a part's slots hold before its relocations
pub record IsFresh (placed : Numbered) (side : Side) (words : List ℕ) : Type 0 where
  pub fits : 8 * (from placed side + count placed side) ≤ length words
  pub all : (j : ℕ) → j < 8 * count placed side → get_or words (8 * from placed side + j) 0 ≡ get_or (here placed side).slots j 0

widths : (relocation : RelocationEntry) → (width_of relocation ≡ 16) ⊎ (width_of relocation ≡ 8)
widths relocation = two_sizes (relocation.kind == 1)

earlier : (x w y r q first at k : ℕ) → x + w - 8 < y → x ≡ 8 * r → y ≡ 8 * q → at ≡ 8 * (first + q) → (w ≡ 16) ⊎ (w ≡ 8) → 8 * (first + r) + w ≤ at + k
earlier x w y r q first at k rising same whole place (inl short) = omega arith
earlier x w y r q first at k rising same whole place (inr long) = omega arith

later : (x w y r q first at k : ℕ) → y + w - 8 < x → x ≡ 8 * r → y ≡ 8 * q → at ≡ 8 * (first + q) → (w ≡ 16) ⊎ (w ≡ 8) → k < w → at + k < 8 * (first + r)
later x w y r q first at k rising same whole place (inl short) small = omega arith
later x w y r q first at k rising same whole place (inr long) small = omega arith

done_at : (placed : Numbered) (side : Side) (words : List ℕ) (i d : ℕ) (new : List ℕ) → relocated placed side words (suc i + d) ≡ Ok new
    → IsFresh placed side words → IsDone placed side new i
done_at placed side words i d new e fresh =
    let s = state_at placed side words (suc i) d new e in
    let a = after_ok (relocated placed side words i) (with_relocation placed side i) s.0 s.1 in
    let b = after_ok (patch_of placed side i) (λ patch. Ok (with_patch a.0 patch)) s.0 a.2 in
    let slot = names_slot placed side i b.0 b.1 in
    let size : length a.0 ≡ length words = size_kept placed side words i a.0 a.1 fresh.fits in
    let inside : b.0.at + patch_width b.0 ≤ length a.0 = omega (arith, slot.fits, fresh.fits) in
    let least : 8 ≤ patch_width b.0 = at_least b.0.next in
    let q : ℕ = offset_at placed side i / 8 in
    let whole : offset_at placed side i ≡ 8 * q = omega (arith, slot.whole) in
    let up = ascends placed side words (suc i + d) new e in
    let start : relocated placed side words (0 + i) ≡ Ok a.0 = ap (relocated placed side words) (zero-add i) ∙ a.1 in
    -- what stood there before
    let before : (k : ℕ) → k < patch_width b.0 → get_or a.0 (b.0.at + k) 0 ≡ get_or (here placed side).slots (offset_at placed side i + k) 0 = λ k small.
    kept_later placed side words 0 i words a.0 (b.0.at + k) refl start fresh.fits
    (λ m r low high inside at.
    let rising : offset_at placed side m + width_at placed side m - 8 < offset_at placed side i = up m i (omega arith) (omega arith) in
    inr (earlier (offset_at placed side m) (width_at placed side m) (offset_at placed side i) r q (from placed side) b.0.at k rising at whole slot.at (widths (relocation_at (here placed side).relocations m))))
    ∙ ap (λ n. get_or words n 0) (omega (arith, slot.at))
    ∙ fresh.all (8 * q + k) (omega (arith, slot.fits, slot.at))
    ∙ ap (λ n. get_or (here placed side).slots n 0) (omega (arith, whole)) in
    -- nothing later changes it
    let after : (k : ℕ) → k < patch_width b.0 → get_or new (b.0.at + k) 0 ≡ get_or (with_patch a.0 b.0) (b.0.at + k) 0 = λ k small.
    kept_later placed side words (suc i) d s.0 new (b.0.at + k) s.1 e fresh.fits
    (λ m r low high inside at.
    let rising : offset_at placed side i + width_at placed side i - 8 < offset_at placed side m = up i m (omega arith) (omega arith) in
    inl (later (offset_at placed side m) (width_at placed side i) (offset_at placed side i) r q (from placed side) b.0.at k rising at whole slot.at (widths (relocation_at (here placed side).relocations i)) (omega (arith, slot.width))))
    ∙ ap (λ w. get_or w (b.0.at + k) 0) (sym (ok_same (with_patch a.0 b.0) s.0 b.2)) in
    record {
      patch = b.0;
      told = b.1;
      bytes = λ k small.
          after k (omega arith) ∙ head_kept a.0 b.0 (b.0.at + k) inside (omega arith)
          ∙ slot_byte (here placed side).slots a.0 b.0 (offset_at placed side i) k (omega arith) (λ k small. before k (omega arith)) small;
      next = λ next k wide small.
          let two : patch_width b.0 ≡ 16 = ap (λ n. if is_some n then 16 else 8) wide in
          ap (λ n. get_or new n 0) (omega arith) ∙ after (8 + k) (omega arith) ∙ ap (λ n. get_or (with_patch a.0 b.0) n 0) (omega arith)
          ∙ next_byte (here placed side).slots a.0 b.0 next (offset_at placed side i + 8) k wide inside
          (λ k low. ap (λ n. get_or a.0 n 0) (omega arith) ∙ before (8 + k) (omega arith) ∙ ap (λ n. get_or (here placed side).slots n 0) (omega arith)) small;
    }

pub all_done : (placed : Numbered) (side : Side) (words new : List ℕ) (n i : ℕ) → relocated placed side words n ≡ Ok new
    → IsFresh placed side words → i < n → IsDone placed side new i
all_done placed side words new n i e fresh inside =
    let rest : n ≡ suc i + (n - suc i) = omega arith in
    done_at placed side words i (n - suc i) new (subst (λ m. relocated placed side words m ≡ Ok new) rest e) fresh
