-- What becomes of each element of the beginning of a list, with one more.
use Rattle.std.proofs.Common.{◌≡◌, ◌<◌, ◌+◌, ℕ, zero, suc, List, [], ◌∷◌, ◌++◌, length, take, slice_index_or, refl, ap, ◌∙◌, arith, add-one}
use Rattle.std.specs.Prelude.{map}

next : {B : Type 0} (f : ℕ → B) (xs : List ℕ) (i : ℕ) → i < length xs → map f (take (suc i) xs) ≡ map f (take i xs) ++ f (slice_index_or xs i 0) ∷ []
next f [] i inside = absurd (omega arith)
next f (x ∷ xs) zero inside = refl
next f (x ∷ xs) (suc i) inside = ap (λ ys. f x ∷ ys) (next f xs i (omega arith))

pub map_more : {B : Type 0} (f : ℕ → B) (xs : List ℕ) (i : ℕ) → i < length xs → map f (take (i + 1) xs) ≡ map f (take i xs) ++ f (slice_index_or xs i 0) ∷ []
map_more f xs i inside = ap (λ n. map f (take n xs)) (add-one i) ∙ next f xs i inside
