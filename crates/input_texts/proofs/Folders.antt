-- The folder of a path, byte by byte from its end.
use Rattle.std.proofs.Common.{ℕ, ◌≡◌, ◌<◌, ◌≤◌, ◌+◌, ◌-◌, true, false, List, [], ◌∷◌, ◌++◌, take, length, get_or, refl, ap, sym, ◌∙◌, arith}
use Rattle.std.proofs.lemmas.List.{take_more}
use Rattle.input_texts.specs.Paths.{folder_of, is_part, onto_folder}

-- a byte of the last name is left out
folder_of-space : (xs : List ℕ) (b : ℕ) → is_part b ≡ true → folder_of (xs ++ b ∷ []) ≡ folder_of xs
folder_of-space [] b h = rw h refl
folder_of-space (x ∷ xs) b h = ap (onto_folder x) (folder_of-space xs b h)

-- a slash at the end is kept
folder_of-other : (xs : List ℕ) (b : ℕ) → is_part b ≡ false → folder_of (xs ++ b ∷ []) ≡ xs ++ b ∷ []
folder_of-other [] b h = rw h refl
folder_of-other (x ∷ []) b h = rw (folder_of-other [] b h) refl
folder_of-other (x ∷ y ∷ xs) b h = rw (folder_of-other (y ∷ xs) b h) refl

-- one byte before the end
take-last : (xs : List ℕ) (end : ℕ) → 0 < end → end ≤ length xs → take end xs ≡ take (end - 1) xs ++ get_or xs (end - 1) 0 ∷ []
take-last xs end h most =
    let last : (end - 1) + 1 ≡ end = omega arith in
    let more = take_more xs (end - 1) 0 (omega arith) in
    ap (λ n. take n xs) (sym last) ∙ more

-- a byte of the last name before the end
pub folder_of-step : (xs : List ℕ) (end : ℕ) → 0 < end → end ≤ length xs → true ≡ is_part (get_or xs (end - 1) 0)
    → folder_of (take (end - 1) xs) ≡ folder_of (take end xs)
folder_of-step xs end h most e =
    sym (folder_of-space (take (end - 1) xs) (get_or xs (end - 1) 0) (sym e)) ∙ ap folder_of (sym (take-last xs end h most))

-- a slash before the end
pub folder_of-stop : (xs : List ℕ) (end : ℕ) → 0 < end → end ≤ length xs → false ≡ is_part (get_or xs (end - 1) 0)
    → take end xs ≡ folder_of (take end xs)
folder_of-stop xs end h most e =
    take-last xs end h most ∙ sym (folder_of-other (take (end - 1) xs) (get_or xs (end - 1) 0) (sym e))
    ∙ ap folder_of (sym (take-last xs end h most))

-- nothing is left
pub folder_of-empty : (xs : List ℕ) (end : ℕ) → end ≤ 0 → take end xs ≡ folder_of (take end xs)
folder_of-empty xs end h = let none : end ≡ 0 = omega arith in rw none refl
