-- Runs of addresses, and what is seen at addresses, one after another.
use Rattle.std.proofs.Common.{◌≡◌, ℕ, zero, suc, ◌+◌, [], ◌∷◌, ◌++◌, length, refl, sym, ap, ◌∙◌, add-one}
use Rattle.std.proofs.lemmas.List.{length-append}
use Rattle.bpf_session.specs.WatchRuns.{addresses}

pub addresses_length : (a n : ℕ) → length (addresses a n) ≡ n
addresses_length a zero = refl
addresses_length a (suc n) = length-append (addresses a n) ((a + n) ∷ []) ∙ ap (λ (k : ℕ). k + 1) (addresses_length a n) ∙ add-one n

pub addresses_more : (a k : ℕ) → addresses a k ++ (a + k) ∷ [] ≡ addresses a (k + 1)
addresses_more a k = ap (addresses a) (sym (add-one k))
