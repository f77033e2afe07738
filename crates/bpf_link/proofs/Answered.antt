-- What answering calls of helpers leaves: the length, and each slot that isn't such a call.
use Rattle.std.proofs.Common.{◌≡◌, ◌≢◌, ◌<◌, ◌≤◌, ◌⊎◌, inl, inr, ℕ, zero, suc, ◌+◌, ◌*◌, ◌/◌, ◌==◌, List, length, get_or, refl, sym, ap, ◌∙◌, arith, add-zero, get_or-set_other}
use Rattle.std.specs.Prelude.{Option, Some, None, ◌&&◌, if◌then◌else◌, slice_set}
use Rattle.bpf_isa.specs.Words.{u32_at}
use Rattle.bpf_link.specs.declared.stubs.Stub.{Stub}
use Rattle.bpf_link.specs.Stubs.{answer_of, calls_helper, answer_in, with_move, answered_below, answered}
use Rattle.bpf_link.proofs.Slots.{u32_length, u32_low, u32_high, set_length}

move_length : (words : List ℕ) (slot : ℕ) (value : Option ℕ) → 8 * slot + 8 ≤ length words → length (with_move words slot value) ≡ length words
move_length words slot None fits = refl
move_length words slot (Some value) fits =
    let size = set_length words (8 * slot) 0xb7 in
    u32_length (slice_set words (8 * slot) 0xb7) (8 * slot + 4) value (omega arith) ∙ size

answers_length : (stubs : List Stub) (words : List ℕ) (n : ℕ) → 8 * n ≤ length words → length (answered_below stubs words n) ≡ length words
answers_length stubs words zero fits = refl
answers_length stubs words (suc n) fits =
    let before = answers_length stubs words n (omega arith) in
    move_length (answered_below stubs words n) n (answer_in stubs (answered_below stubs words n) n) (omega arith) ∙ before

pub answered_length : (stubs : List Stub) (words : List ℕ) → length (answered stubs words) ≡ length words
answered_length stubs words = answers_length stubs words (length words / 8) (omega arith)

-- a move leaves the bytes of other slots
move_apart : (words : List ℕ) (slot : ℕ) (value : Option ℕ) (j : ℕ) → 8 * slot + 8 ≤ length words → (j < 8 * slot) ⊎ (8 * slot + 8 ≤ j) → get_or (with_move words slot value) j 0 ≡ get_or words j 0
move_apart words slot None j fits side = refl
move_apart words slot (Some value) j fits (inl low) =
    let size = set_length words (8 * slot) 0xb7 in
    let other : j ≢ 8 * slot = omega arith in
    u32_low (slice_set words (8 * slot) 0xb7) (8 * slot + 4) value j (omega arith) (omega arith) ∙ get_or-set_other words (8 * slot) j 0xb7 0 other
move_apart words slot (Some value) j fits (inr high) =
    let size = set_length words (8 * slot) 0xb7 in
    let other : j ≢ 8 * slot = omega arith in
    u32_high (slice_set words (8 * slot) 0xb7) (8 * slot + 4) value j (omega arith) (omega arith) ∙ get_or-set_other words (8 * slot) j 0xb7 0 other

-- two slots of the same bytes are the same call
abbrev pub AreSame : List ℕ → ℕ → List ℕ → ℕ → Type 0
AreSame xs s ys t = (k : ℕ) → k < 8 → get_or xs (8 * s + k) 0 ≡ get_or ys (8 * t + k) 0

pub number_same : (xs ys : List ℕ) (i j : ℕ) → get_or xs i 0 ≡ get_or ys j 0 → get_or xs (i + 1) 0 ≡ get_or ys (j + 1) 0 → get_or xs (i + 2) 0 ≡ get_or ys (j + 2) 0 → get_or xs (i + 2 + 1) 0 ≡ get_or ys (j + 2 + 1) 0
    → u32_at xs i ≡ u32_at ys j
number_same xs ys i j a b c d = omega (arith, a, b, c, d)

at_zero : (xs ys : List ℕ) (s t : ℕ) → AreSame xs s ys t → get_or xs (8 * s) 0 ≡ get_or ys (8 * t) 0
at_zero xs ys s t same = ap (λ i. get_or xs i 0) (sym (add-zero (8 * s))) ∙ same 0 (omega arith) ∙ ap (λ i. get_or ys i 0) (add-zero (8 * t))

at_more : (xs ys : List ℕ) (s t k : ℕ) → AreSame xs s ys t → k < 4 → get_or xs (8 * s + 4 + k) 0 ≡ get_or ys (8 * t + 4 + k) 0
at_more xs ys s t k same small = ap (λ i. get_or xs i 0) (omega arith) ∙ same (4 + k) (omega arith) ∙ ap (λ i. get_or ys i 0) (omega arith)

pub answer_same : (stubs : List Stub) (xs ys : List ℕ) (s t : ℕ) → AreSame xs s ys t → answer_in stubs xs s ≡ answer_in stubs ys t
answer_same stubs xs ys s t same =
    let zeroth : get_or xs (8 * s + 4) 0 ≡ get_or ys (8 * t + 4) 0 = same 4 (omega arith) in
    let number : u32_at xs (8 * s + 4) ≡ u32_at ys (8 * t + 4) =
    number_same xs ys (8 * s + 4) (8 * t + 4) zeroth (at_more xs ys s t 1 same (omega arith)) (at_more xs ys s t 2 same (omega arith))
    (ap (λ i. get_or xs i 0) (omega arith) ∙ at_more xs ys s t 3 same (omega arith) ∙ ap (λ i. get_or ys i 0) (omega arith)) in
    ap (λ n. if calls_helper xs s then answer_of stubs n else None) number
    ∙ ap (λ a. if (a == 0x85) && (get_or xs (8 * s + 1) 0 == 0) then answer_of stubs (u32_at ys (8 * t + 4)) else None) (at_zero xs ys s t same)
    ∙ ap (λ b. if (get_or ys (8 * t) 0 == 0x85) && (b == 0) then answer_of stubs (u32_at ys (8 * t + 4)) else None) (same 1 (omega arith))

which : (n s : ℕ) → (n ≡ s) ⊎ ((n < s) ⊎ (s < n))
which n s = grind arith

beside : (n s k : ℕ) → (n < s) ⊎ (s < n) → k < 8 → (8 * s + k < 8 * n) ⊎ (8 * n + 8 ≤ 8 * s + k)
beside n s k (inl low) small = inr (omega arith)
beside n s k (inr high) small = inl (omega arith)

pub kept : (stubs : List Stub) (words : List ℕ) (s n : ℕ) → answer_in stubs words s ≡ None → 8 * n ≤ length words → AreSame (answered_below stubs words n) s words s
kept stubs words s zero none fits = λ k small. refl
kept stubs words s (suc n) none fits = λ k small. by (which n s) (kept stubs words s n none (omega arith)) k small
  where
    by : (n ≡ s) ⊎ ((n < s) ⊎ (s < n)) → AreSame (answered_below stubs words n) s words s → (k : ℕ) → k < 8
        → get_or (answered_below stubs words (suc n)) (8 * s + k) 0 ≡ get_or words (8 * s + k) 0
    by (inl here) rest k small =
        let before = answered_below stubs words n in
        let answer : answer_in stubs before n ≡ None = ap (answer_in stubs before) here ∙ answer_same stubs before words s s rest ∙ none in
        ap (λ value. get_or (with_move before n value) (8 * s + k) 0) answer ∙ rest k small
    by (inr apart) rest k small =
        let before = answered_below stubs words n in
        let size = answers_length stubs words n (omega arith) in
        move_apart before n (answer_in stubs before n) (8 * s + k) (omega (arith, size)) (beside n s k apart small) ∙ rest k small
