-- The entries of a line of registers, one by one.
use Rattle.std.proofs.Common.{◌≡◌, ◌+◌, ◌-◌, ◌<◌, ℕ, zero, suc, Bool, true, false, List, [], ◌∷◌, ◌++◌, codes, take, sym, ap, refl, ◌∙◌, append_assoc, arith}
use Rattle.std.specs.Prelude.{◌&&◌, if◌then◌else◌}
use Rattle.std.proofs.lemmas.List.{append-nil}
use Rattle.counted_io.specs.Writing.{hexadecimal}
use Rattle.bpf_steps.specs.State.{State, register}
use Rattle.input_texts.specs.TraceForms.{is_told}
use Rattle.bpf_diff.specs.Against.{are_told, difference, differences, entry, registers_from}

-- registers, each behind a blank
pub registers-more : (x : State) (k : ℕ) (front : List ℕ) → k < 11
    → (front ++ (codes " " ++ hexadecimal (register x k))) ++ registers_from x (k + 1) (11 - (k + 1)) ≡ front ++ registers_from x k (11 - k)
registers-more x k front low =
    let e : suc (11 - (k + 1)) ≡ 11 - k = omega (arith, low) in
    let f : k + 1 ≡ suc k = omega arith in
    append_assoc front (codes " " ++ hexadecimal (register x k)) (registers_from x (k + 1) (11 - (k + 1)))
    ∙ ap (λ (m : ℕ). front ++ ((codes " " ++ hexadecimal (register x k)) ++ registers_from x m (11 - (k + 1)))) f
    ∙ ap (λ (n : ℕ). front ++ registers_from x k n) e

pub registers-end : (x : State) (k : ℕ) (front : List ℕ) → k ≡ 11 → front ++ registers_from x k (11 - k) ≡ front ++ codes "\n"
registers-end x k front all = let e : 11 - k ≡ 0 = omega (arith, all) in ap (λ (n : ℕ). front ++ registers_from x k n) e

-- at most twelve words
take-nil : (n : ℕ) → take {A = List ℕ} n [] ≡ []
take-nil zero = refl
take-nil (suc n) = refl

first-of : (k : ℕ) (w : List ℕ) (ws : List (List ℕ)) → k < 12 → take (12 - k) (w ∷ ws) ≡ w ∷ take (12 - (k + 1)) ws
first-of k w ws low = let e : 12 - k ≡ suc (12 - (k + 1)) = omega (arith, low) in ap (λ (n : ℕ). take n (w ∷ ws)) e

none-of : (k : ℕ) (ws : List (List ℕ)) → k ≡ 12 → take (12 - k) ws ≡ []
none-of k ws all = let e : 12 - k ≡ 0 = omega (arith, all) in ap (λ (n : ℕ). take n ws) e

-- whether they are told, from one on
pub told-no : (x : State) (k : ℕ) (w : List ℕ) (ws : List (List ℕ)) → k < 12 → is_told (entry x k) w ≡ false
    → are_told x k (take (12 - k) (w ∷ ws)) ≡ false
told-no x k w ws low isnt = ap (are_told x k) (first-of k w ws low) ∙ ap (λ (b : Bool). b && are_told x (suc k) (take (12 - (k + 1)) ws)) isnt

pub told-more : (x : State) (k : ℕ) (w : List ℕ) (ws : List (List ℕ)) → k < 12 → is_told (entry x k) w ≡ true
    → are_told x k (take (12 - k) (w ∷ ws)) ≡ are_told x (k + 1) (take (12 - (k + 1)) ws)
told-more x k w ws low does =
    let f : suc k ≡ k + 1 = omega arith in
    ap (are_told x k) (first-of k w ws low)
    ∙ ap (λ (b : Bool). b && are_told x (suc k) (take (12 - (k + 1)) ws)) does
    ∙ ap (λ (m : ℕ). are_told x m (take (12 - (k + 1)) ws)) f

pub told-none : (x : State) (k : ℕ) → are_told x k (take (12 - k) []) ≡ true
told-none x k = ap (are_told x k) (take-nil (12 - k))

pub told-end : (x : State) (k : ℕ) (ws : List (List ℕ)) → k ≡ 12 → are_told x k (take (12 - k) ws) ≡ true
told-end x k ws all = ap (are_told x k) (none-of k ws all)

-- the ones that are other ones here
abbrev one : List State → State → ℕ → List ℕ → List ℕ
one before x k w = if is_told (entry x k) w then [] else difference before x k w

pub differences-more : (before : List State) (x : State) (k : ℕ) (front w : List ℕ) (ws : List (List ℕ)) → k < 12
    → (front ++ (if is_told (entry x k) w then [] else difference before x k w)) ++ differences before x (k + 1) (take (12 - (k + 1)) ws)
    ≡ front ++ differences before x k (take (12 - k) (w ∷ ws))
differences-more before x k front w ws low =
    let f : k + 1 ≡ suc k = omega arith in
    append_assoc front (one before x k w) (differences before x (k + 1) (take (12 - (k + 1)) ws))
    ∙ ap (λ (m : ℕ). front ++ (one before x k w ++ differences before x m (take (12 - (k + 1)) ws))) f
    ∙ ap (λ (all : List (List ℕ)). front ++ differences before x k all) (sym (first-of k w ws low))

pub differences-none : (before : List State) (x : State) (k : ℕ) (front : List ℕ) → front ≡ front ++ differences before x k (take (12 - k) [])
differences-none before x k front =
    sym (ap (λ (all : List (List ℕ)). front ++ differences before x k all) (take-nil (12 - k)) ∙ append-nil front)

pub differences-end : (before : List State) (x : State) (k : ℕ) (front : List ℕ) (ws : List (List ℕ)) → k ≡ 12
    → front ≡ front ++ differences before x k (take (12 - k) ws)
differences-end before x k front ws all =
    sym (ap (λ (rest : List (List ℕ)). front ++ differences before x k rest) (none-of k ws all) ∙ append-nil front)
