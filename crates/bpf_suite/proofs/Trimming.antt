-- A text without the spaces at its end.
use Rattle.std.proofs.Common.{ℕ, ◌≡◌, ◌<◌, ◌≤◌, ◌+◌, ◌-◌, true, false, List, [], ◌∷◌, ◌++◌, take, length, get_or, refl, ap, sym, ◌∙◌, arith}
use Rattle.std.proofs.lemmas.List.{take_more}
use Rattle.bpf_suite.specs.Bodies.{is_space, onto_trimmed, trim_end}

-- a space at the end is trimmed
trim_end-space : (xs : List ℕ) (b : ℕ) → is_space b ≡ true → trim_end (xs ++ b ∷ []) ≡ trim_end xs
trim_end-space [] b h = rw h refl
trim_end-space (x ∷ xs) b h = ap (onto_trimmed x) (trim_end-space xs b h)

-- another byte at the end is kept
trim_end-other : (xs : List ℕ) (b : ℕ) → is_space b ≡ false → trim_end (xs ++ b ∷ []) ≡ xs ++ b ∷ []
trim_end-other [] b h = rw h refl
trim_end-other (x ∷ []) b h = rw (trim_end-other [] b h) refl
trim_end-other (x ∷ y ∷ xs) b h = rw (trim_end-other (y ∷ xs) b h) refl

-- one byte before the end
take-last : (xs : List ℕ) (end : ℕ) → 0 < end → end ≤ length xs → take end xs ≡ take (end - 1) xs ++ get_or xs (end - 1) 0 ∷ []
take-last xs end h most =
    let last : (end - 1) + 1 ≡ end = omega arith in
    let more = take_more xs (end - 1) 0 (omega arith) in
    ap (λ n. take n xs) (sym last) ∙ more

-- a space before the end
pub trim_end-step : (xs : List ℕ) (end : ℕ) → 0 < end → end ≤ length xs → true ≡ is_space (get_or xs (end - 1) 0)
    → trim_end (take (end - 1) xs) ≡ trim_end (take end xs)
trim_end-step xs end h most e =
    sym (trim_end-space (take (end - 1) xs) (get_or xs (end - 1) 0) (sym e)) ∙ ap trim_end (sym (take-last xs end h most))

-- another byte before the end
pub trim_end-stop : (xs : List ℕ) (end : ℕ) → 0 < end → end ≤ length xs → false ≡ is_space (get_or xs (end - 1) 0)
    → take end xs ≡ trim_end (take end xs)
trim_end-stop xs end h most e =
    take-last xs end h most ∙ sym (trim_end-other (take (end - 1) xs) (get_or xs (end - 1) 0) (sym e))
    ∙ ap trim_end (sym (take-last xs end h most))

-- nothing is left
pub trim_end-empty : (xs : List ℕ) (end : ℕ) → end ≤ 0 → take end xs ≡ trim_end (take end xs)
trim_end-empty xs end h = let none : end ≡ 0 = omega arith in rw none refl
