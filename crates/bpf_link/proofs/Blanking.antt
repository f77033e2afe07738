-- What exits in the slots that aren't reached leave: the length, and each slot that is.
use Rattle.std.proofs.Common.{◌≡◌, ◌<◌, ◌≤◌, ◌⊎◌, inl, inr, ℕ, zero, suc, ◌+◌, ◌-◌, ◌*◌, ◌/◌, Bool, true, false, List, ◌++◌, length, take, drop, get_or, refl, ap, ◌∙◌, arith}
use Rattle.std.specs.Prelude.{if◌then◌else◌}
use Rattle.std.proofs.lemmas.List.{get_or-append_right, get_or_append_left, get_or-take, get_or-drop}
use Rattle.std.proofs.lemmas.Grind.{common_steps}
use Rattle.byteorder.specs.Endian.{little_bytes}
use Rattle.byteorder.specs.Numbers.{length-bytes_low_first}
use Rattle.bpf_link.specs.Blanked.{blanked, blanked_below}
use Rattle.bpf_link.specs.Images.{with_u64}
use Rattle.bpf_link.specs.Reach.{is_reached}
use Rattle.bpf_link.proofs.Answered.{AreSame}

u64_length : (bytes : List ℕ) (at n : ℕ) → at + 8 ≤ length bytes → length (with_u64 bytes at n) ≡ length bytes
u64_length bytes at n fits = let eight : length (little_bytes 8 n) ≡ 8 = length-bytes_low_first 0 8 n in grind (arith, common_steps)

u64_apart : (bytes : List ℕ) (at n j : ℕ) → at + 8 ≤ length bytes → (j < at) ⊎ (at + 8 ≤ j) → get_or (with_u64 bytes at n) j 0 ≡ get_or bytes j 0
u64_apart bytes at n j fits (inl low) =
    let size : length (take at bytes) ≡ at = grind (arith, common_steps) in
    get_or_append_left (take at bytes) (little_bytes 8 n ++ drop (at + 8) bytes) 0 j (omega arith) ∙ get_or-take at bytes j 0 low
u64_apart bytes at n j fits (inr high) =
    let size : length (take at bytes) ≡ at = grind (arith, common_steps) in
    get_or-append_right (take at bytes) (little_bytes 8 n ++ drop (at + 8) bytes) at j 0 size (omega arith)
    ∙ get_or-append_right (little_bytes 8 n) (drop (at + 8) bytes) 8 (j - at) 0 (length-bytes_low_first 0 8 n) (omega arith)
    ∙ get_or-drop (at + 8) bytes (j - at - 8) 0
    ∙ ap (λ i. get_or bytes i 0) (omega arith)

exit_length : (reached : Bool) (words : List ℕ) (slot : ℕ) → 8 * slot + 8 ≤ length words → length (if reached then words else with_u64 words (8 * slot) 0x95) ≡ length words
exit_length true words slot fits = refl
exit_length false words slot fits = u64_length words (8 * slot) 0x95 fits

below_length : (reach : List Bool) (words : List ℕ) (n : ℕ) → 8 * n ≤ length words → length (blanked_below reach words n) ≡ length words
below_length reach words zero fits = refl
below_length reach words (suc n) fits =
    let before = below_length reach words n (omega arith) in
    exit_length (is_reached reach n) (blanked_below reach words n) n (omega (arith, before)) ∙ before

pub blanked_length : (reach : List Bool) (words : List ℕ) → length (blanked reach words) ≡ length words
blanked_length reach words = below_length reach words (length words / 8) (omega arith)

which : (n s : ℕ) → (n ≡ s) ⊎ ((n < s) ⊎ (s < n))
which n s = grind arith

beside : (n s k : ℕ) → (n < s) ⊎ (s < n) → k < 8 → (8 * s + k < 8 * n) ⊎ (8 * n + 8 ≤ 8 * s + k)
beside n s k (inl low) small = inr (omega arith)
beside n s k (inr high) small = inl (omega arith)

exit_apart : (reached : Bool) (words : List ℕ) (slot j : ℕ) → 8 * slot + 8 ≤ length words → (j < 8 * slot) ⊎ (8 * slot + 8 ≤ j)
    → get_or (if reached then words else with_u64 words (8 * slot) 0x95) j 0 ≡ get_or words j 0
exit_apart true words slot j fits side = refl
exit_apart false words slot j fits side = u64_apart words (8 * slot) 0x95 j fits side

kept_below : (reach : List Bool) (words : List ℕ) (s n : ℕ) → is_reached reach s ≡ true → 8 * n ≤ length words → AreSame (blanked_below reach words n) s words s
kept_below reach words s zero reached fits = λ k small. refl
kept_below reach words s (suc n) reached fits = λ k small. by (which n s) (kept_below reach words s n reached (omega arith)) k small
  where
    by : (n ≡ s) ⊎ ((n < s) ⊎ (s < n)) → AreSame (blanked_below reach words n) s words s → (k : ℕ) → k < 8
        → get_or (blanked_below reach words (suc n)) (8 * s + k) 0 ≡ get_or words (8 * s + k) 0
    by (inl here) rest k small =
        let before = blanked_below reach words n in
        let this : is_reached reach n ≡ true = ap (is_reached reach) here ∙ reached in
        ap (λ b. get_or (if b then before else with_u64 before (8 * n) 0x95) (8 * s + k) 0) this ∙ rest k small
    by (inr apart) rest k small =
        let before = blanked_below reach words n in
        let size = below_length reach words n (omega arith) in
        exit_apart (is_reached reach n) before n (8 * s + k) (omega (arith, size)) (beside n s k apart small) ∙ rest k small

pub blanked_kept : (reach : List Bool) (words : List ℕ) (s : ℕ) → is_reached reach s ≡ true → AreSame (blanked reach words) s words s
blanked_kept reach words s reached = kept_below reach words s (length words / 8) reached (omega arith)
