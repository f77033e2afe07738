-- What there is for each number below n: how many, and each of them.
use Rattle.std.proofs.Common.{◌≡◌, ◌<◌, ◌⊎◌, inl, inr, ℕ, zero, suc, List, [], ◌∷◌, ◌++◌, length, take, get_or, refl, sym, ◌∙◌, subst, arith}
use Rattle.std.proofs.lemmas.List.{length_push, get_or_push, get_or_append_left, take_all}
use Rattle.bpf_link.specs.Objects.{below}

pub below_length : {A : Type 0} (item : ℕ → A) (n : ℕ) → length (below item n) ≡ n
below_length item zero = refl
below_length item (suc n) = let rest = below_length item n in length_push (below item n) (item n) ∙ omega (arith, rest)

below_more : {A : Type 0} (item : ℕ → A) (n i : ℕ) (d : A) → (i < n → get_or (below item n) i d ≡ item i) → (i < n) ⊎ (i ≡ n) → get_or (below item (suc n)) i d ≡ item i
below_more item n i d before (inl low) =
    let size = below_length item n in
    get_or_append_left (below item n) (item n ∷ []) d i (omega (arith, size)) ∙ before low
below_more item n i d before (inr same) =
    subst (λ k. get_or (below item n ++ item n ∷ []) k d ≡ item k) (sym same) (get_or_push (below item n) (item n) d n (below_length item n))

last_or : (i n : ℕ) → i < suc n → (i < n) ⊎ (i ≡ n)
last_or i n h = grind arith

pub below_at : {A : Type 0} (item : ℕ → A) (n i : ℕ) (d : A) → i < n → get_or (below item n) i d ≡ item i
below_at item zero i d inside = absurd (omega arith)
below_at item (suc n) i d inside = below_more item n i d (below_at item n i d) (last_or i n inside)

-- a list of n whose beginning is known as far as it goes
pub filled : {A : Type 0} (item : ℕ → A) (xs : List A) (k n : ℕ) → take k xs ≡ below item k → length xs ≡ n → k ≡ n → xs ≡ below item n
filled item xs k n made size end = sym (take_all n xs (omega (arith, size))) ∙ subst (λ m. take m xs ≡ below item m) end made
