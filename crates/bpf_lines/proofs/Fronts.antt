-- What stands up to the last such byte of a text, byte by byte from its end.
use Rattle.std.proofs.Common.{ℕ, ◌≡◌, ◌<◌, ◌≤◌, ◌+◌, ◌-◌, true, false, List, [], ◌∷◌, ◌++◌, take, length, get_or, refl, ap, sym, ◌∙◌, arith}
use Rattle.std.specs.Prelude.{◌==◌, not}
use Rattle.std.proofs.lemmas.List.{take_more}
use Rattle.bpf_lines.specs.TableRows.{front_of, onto_front}

-- another byte at the end is left out
front_of-other : (byte : ℕ) (xs : List ℕ) (b : ℕ) → not (b == byte) ≡ true → front_of byte (xs ++ b ∷ []) ≡ front_of byte xs
front_of-other byte [] b h = rw h refl
front_of-other byte (x ∷ xs) b h = ap (onto_front byte x) (front_of-other byte xs b h)

-- such a byte is kept
front_of-such : (byte : ℕ) (xs : List ℕ) (b : ℕ) → not (b == byte) ≡ false → front_of byte (xs ++ b ∷ []) ≡ xs ++ b ∷ []
front_of-such byte [] b h = rw h refl
front_of-such byte (x ∷ []) b h = rw (front_of-such byte [] b h) refl
front_of-such byte (x ∷ y ∷ xs) b h = rw (front_of-such byte (y ∷ xs) b h) refl

-- one byte before the end
take-last : (xs : List ℕ) (end : ℕ) → 0 < end → end ≤ length xs → take end xs ≡ take (end - 1) xs ++ get_or xs (end - 1) 0 ∷ []
take-last xs end h most =
    let last : (end - 1) + 1 ≡ end = omega arith in
    let more = take_more xs (end - 1) 0 (omega arith) in
    ap (λ n. take n xs) (sym last) ∙ more

-- another byte before the end
pub front_of-step : (byte : ℕ) (xs : List ℕ) (end : ℕ) → 0 < end → end ≤ length xs → true ≡ not (get_or xs (end - 1) 0 == byte)
    → front_of byte (take (end - 1) xs) ≡ front_of byte (take end xs)
front_of-step byte xs end h most e =
    sym (front_of-other byte (take (end - 1) xs) (get_or xs (end - 1) 0) (sym e)) ∙ ap (front_of byte) (sym (take-last xs end h most))

-- such a byte before the end
pub front_of-stop : (byte : ℕ) (xs : List ℕ) (end : ℕ) → 0 < end → end ≤ length xs → false ≡ not (get_or xs (end - 1) 0 == byte)
    → take end xs ≡ front_of byte (take end xs)
front_of-stop byte xs end h most e =
    take-last xs end h most ∙ sym (front_of-such byte (take (end - 1) xs) (get_or xs (end - 1) 0) (sym e))
    ∙ ap (front_of byte) (sym (take-last xs end h most))

-- nothing is left
pub front_of-empty : (byte : ℕ) (xs : List ℕ) (end : ℕ) → end ≤ 0 → take end xs ≡ front_of byte (take end xs)
front_of-empty byte xs end h = let none : end ≡ 0 = omega arith in rw none refl
