-- What follows packets of a capture, where nothing is left.
use Rattle.std.proofs.Common.{ℕ, zero, suc, ◌≡◌, ◌≤◌, ◌<◌, ◌+◌, ◌-◌, true, false, List, [], ◌∷◌, ◌++◌, drop, get_or, length, nat_lt, refl, sym, ap, ◌∙◌, inl, inr, arith, add-zero, add-suc}
use Rattle.std.proofs.Math.ListN.{get_or-append}
use Rattle.std.proofs.Math.Seq.{get_or-append_seam}
use Rattle.std.proofs.lemmas.Bool.{cases_lt}
use Rattle.std.proofs.lemmas.Bool.Decides.{nat_tests}
use Rattle.std.proofs.lemmas.List.{drop-drop, drop_all, length-append}
use Rattle.input_texts.specs.Captures.{begun_at, rest, size_of}
use Rattle.input_texts.specs.declared.capture.Order.{Order}

pub rest-nil : (o : Order) (s : List ℕ) (n k : ℕ) → rest o s n ≡ [] → rest o s (n + k) ≡ []
rest-nil o s n zero e = ap (rest o s) (add-zero n) ∙ e
rest-nil o s n (suc k) e = ap (rest o s) (add-suc n k) ∙ ap (λ left. drop (size_of o left) left) (rest-nil o s n k e)

-- behind all packets nothing follows
pub behind-all : (o : Order) (s : List ℕ) (n k : ℕ) → rest o s n ≡ [] → n ≤ k → rest o s k ≡ []
behind-all o s n k e low =
    let more : n + (k - n) ≡ k = omega (arith, low) in
    ap (rest o s) (sym more) ∙ rest-nil o s n (k - n) e

-- the packet at a place, and what begins behind it
module _ (o : Order) (s file : List ℕ) (xs : List ℕ) (at size : ℕ) (next : rest o s (length xs) ≡ drop at file) where
  pub next-one : size ≡ size_of o (drop at file) → rest o s (length (xs ++ at ∷ [])) ≡ drop (at + size) file
  next-one is =
      ap (rest o s) (length-append xs (at ∷ []) ∙ add-suc (length xs) 0 ∙ ap suc (add-zero (length xs)))
      ∙ ap (λ left. drop (size_of o left) left) next
      ∙ ap (λ n. drop n (drop at file)) (sym is)
      ∙ drop-drop size at file

  pub each-one : ((k : ℕ) → k < length xs → rest o s k ≡ drop (get_or xs k 0) file) → (k : ℕ) → k < length (xs ++ at ∷ [])
      → rest o s k ≡ drop (get_or (xs ++ at ∷ []) k 0) file
  each-one each k low = elim (cases_lt k (length xs)) [
    | inl before ↦ each k before ∙ ap (λ n. drop n file) (sym (get_or-append xs (at ∷ []) 0 k before))
    | inr behind ↦
        let last : k ≡ length xs = omega (arith, behind, low, length-append xs (at ∷ [])) in
        ap (rest o s) last ∙ next ∙ ap (λ n. drop n file) (sym (ap (λ i. get_or (xs ++ at ∷ []) i 0) last ∙ get_or-append_seam xs at [] 0))
  ]

-- all of them, where none is left
pub all-begin : (o : Order) (s file xs : List ℕ) (at : ℕ) → rest o s (length xs) ≡ drop at file → length file ≤ at
    → ((k : ℕ) → k < length xs → rest o s k ≡ drop (get_or xs k 0) file) → (k : ℕ) → rest o s k ≡ begun_at file xs k
all-begin o s file xs at next end each k = elim (cases_lt k (length xs)) [
  | inl before ↦
      let yes : nat_lt k (length xs) ≡ true = grind (arith, nat_tests) in
      each k before ∙ rw yes refl
  | inr behind ↦
      let no : nat_lt k (length xs) ≡ false = grind (arith, nat_tests) in
      behind-all o s (length xs) k (next ∙ drop_all at file end) behind ∙ rw no refl
]
