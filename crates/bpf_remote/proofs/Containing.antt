-- A text that is looked for in another, place by place.
use Rattle.std.proofs.Common.{◌≡◌, ℕ, ◌+◌, ◌<◌, ◌≤◌, true, false, List, ◌∷◌, length, drop, is_some, refl, sym, ap, ◌∙◌}
use Rattle.std.proofs.Common.{add-one}
use Rattle.std.proofs.Math.Seq.{drop-cons}
use Rattle.std.proofs.lemmas.List.{drop_all}
use Rattle.bpf_remote.specs.Numbers.{behind}
use Rattle.bpf_remote.specs.Requests.{contains}

-- it stands at the front
front : (name xs : List ℕ) (byte : ℕ) (rest : List ℕ) → xs ≡ byte ∷ rest → is_some (behind name xs) ≡ true → contains name xs ≡ true
front name xs byte rest e h = let f : is_some (behind name (byte ∷ rest)) ≡ true = rw e at h in rw (e, f) refl

-- it doesn't
later : (name xs : List ℕ) (byte : ℕ) (rest : List ℕ) → xs ≡ byte ∷ rest → is_some (behind name xs) ≡ false → contains name xs ≡ contains name rest
later name xs byte rest e h = let f : is_some (behind name (byte ∷ rest)) ≡ false = rw e at h in rw (e, f) refl

pub contains-found : (name text : List ℕ) (i : ℕ) → i < length text → contains name text ≡ contains name (drop i text) → is_some (behind name (drop i text)) ≡ true → contains name text ≡ true
contains-found name text i inside so h = so ∙ front name (drop i text) _ _ (drop-cons text i 0 inside) h

pub contains-more : (name text : List ℕ) (i : ℕ) → i < length text → contains name text ≡ contains name (drop i text) → is_some (behind name (drop i text)) ≡ false
    → contains name text ≡ contains name (drop (i + 1) text)
contains-more name text i inside so h = so ∙ later name (drop i text) _ _ (drop-cons text i 0 inside) h ∙ ap (λ (k : ℕ). contains name (drop k text)) (sym (add-one i))

pub contains-none : (name text : List ℕ) (i : ℕ) → length text ≤ i → contains name text ≡ contains name (drop i text) → contains name text ≡ false
contains-none name text i end so = so ∙ ap (contains name) (drop_all i text end)
