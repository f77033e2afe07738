-- What a write to the rest of a slice leaves.
use Rattle.std.proofs.Common.{◌≡◌, ℕ, ◌+◌, ◌-◌, List, [], ◌∷◌, ◌++◌, length, take, drop, refl, arith}
use Rattle.std.specs.Prelude.{slice_index}
use Rattle.std.proofs.lemmas.Grind.{common_steps}
use borrow.Rule.Slice.PartMut.{put_mid, post_of, mid_of}

-- A part h was written at the front, and then t at the front of the rest.
pub two_parts : (a n m : ℕ) (xs h t H T : List ℕ) → m ≡ a + n → length h ≡ a → H ≡ h ++ drop a xs
    → T ≡ t ++ drop n (mid_of a (length H - a) H) → put_mid a (length H - a) H T ≡ h ++ (t ++ drop m xs)
two_parts a n m xs h t H T e len he te =
    let front : take a H ≡ h = grind (arith, common_steps) in
    let rest : drop a H ≡ drop a xs = grind (arith, common_steps) in
    let whole : mid_of a (length H - a) H ≡ drop a xs = grind (arith, common_steps) in
    let past : post_of a (length H - a) H ≡ [] = grind (arith, common_steps) in
    let end : drop n (drop a xs) ≡ drop m xs = grind (arith, common_steps) in
    grind (arith, common_steps)

-- A list of four items is those.
pub four_items : (xs : List ℕ) → length xs ≡ 4 → slice_index xs 0 ∷ slice_index xs 1 ∷ slice_index xs 2 ∷ slice_index xs 3 ∷ [] ≡ xs
four_items [] e = absurd (omega (arith, e))
four_items (a ∷ []) e = absurd (omega (arith, e))
four_items (a ∷ b ∷ []) e = absurd (omega (arith, e))
four_items (a ∷ b ∷ c ∷ []) e = absurd (omega (arith, e))
four_items (a ∷ b ∷ c ∷ d ∷ []) e = refl
four_items (a ∷ b ∷ c ∷ d ∷ x ∷ xs) e = absurd (omega (arith, e))
