-- Bytes are all zero where the first one is, and each is as the one before it.
use lib.Pointwise.{pointwise}
use Rattle.std.proofs.Common.{◌≡◌, ◌≤◌, ℕ, zero, suc, ◌-◌, ◌==◌, nat_eq, Bool, true, false, ◌&&◌, List, [], ◌∷◌, length, take, drop, slice_index_or, refl, ap, ◌∙◌, arith}
use Rattle.std.specs.List.{list_all}
use Rattle.std.proofs.lemmas.Bool.{eqb-true}
use Rattle.std.proofs.lemmas.List.{take_all}
use Rattle.bpf_link.specs.Setup.{is_zero}

-- one more byte
more : (c : ℕ) (s : List ℕ) (t : Bool) → (c == 0) ≡ t → pointwise nat_eq s (take (length s) (0 ∷ s)) ≡ list_all (λ byte. byte == 0) s
    → ((c == 0) && pointwise nat_eq s (take (length s) (c ∷ s))) ≡ ((c == 0) && list_all (λ byte. byte == 0) s)
more c s true e rest = rw e (ap (λ b. pointwise nat_eq s (take (length s) (b ∷ s))) (eqb-true c 0 e) ∙ rest)
more c s false e rest = rw e refl

behind : (s : List ℕ) → pointwise nat_eq s (take (length s) (0 ∷ s)) ≡ list_all (λ byte. byte == 0) s
behind [] = refl
behind (c ∷ s) = more c s (c == 0) refl (behind s)

after_zero : (b : ℕ) (s rest : List ℕ) → b ≡ 0 → rest ≡ s → pointwise nat_eq rest (take (length rest) (b ∷ s)) ≡ is_zero (b ∷ s)
after_zero zero s rest first same = ap (λ r. pointwise nat_eq r (take (length r) (0 ∷ s))) same ∙ behind s
after_zero (suc n) s rest first same = absurd (omega (arith, first))

pub zeros : (image : List ℕ) → 1 ≤ length image → slice_index_or image 0 0 ≡ 0
    → pointwise nat_eq (take (length image - 1) (drop 1 image)) (take (length (take (length image - 1) (drop 1 image))) image) ≡ is_zero image
zeros [] some first = absurd (omega (arith, some))
zeros (b ∷ s) some first =
    after_zero b s (take (length (b ∷ s) - 1) s) first (take_all (length (b ∷ s) - 1) s (omega arith))
