-- One turn of the loops that make texts of lists.
use Rattle.std.proofs.Common.{◌≡◌, ℕ, List, [], ◌∷◌, ◌++◌, Option, Some, None, refl, sym, ap, ◌∙◌, append_assoc}
use Rattle.std.specs.Option.{option_map}
use Rattle.answer_forms.specs.Shapes.{Spot, member_of, members, value_in}

-- a text in front of what is found
abbrev pub onto : List ℕ → List ℕ × List ℕ → List ℕ × List ℕ
onto out q = (out ++ q.0, q.1)

-- nothing in front of it
pub onto-nothing : (out : List ℕ) → out ≡ [] → (o : Option (List ℕ × List ℕ)) → o ≡ option_map (onto out) o
onto-nothing out e None = refl
onto-nothing out e (Some q) = ap (λ (a : List ℕ). Some (a ++ q.0, q.1)) (sym e)

-- a member more
onto-member : (out out' m : List ℕ) → out' ≡ out ++ m → (o : Option (List ℕ × List ℕ)) → option_map (onto out) (option_map (λ q. (m ++ q.0, q.1)) o) ≡ option_map (onto out') o
onto-member out out' m e None = refl
onto-member out out' m e (Some q) = ap (λ (a : List ℕ). Some (a, q.1)) (sym (append_assoc out m q.0) ∙ ap (λ (a : List ℕ). a ++ q.0) (sym e))

pub members-step : (out out' : List ℕ) (spot : Spot) (spots : List Spot) (s value rest : List ℕ) → value_in spot s ≡ Some (value, rest) → out' ≡ out ++ member_of spot value
    → option_map (onto out) (members (spot ∷ spots) s) ≡ option_map (onto out') (members spots rest)
members-step out out' spot spots s value rest e new = rw e (onto-member out out' (member_of spot value) new (members spots rest))

-- a field that isn't there
pub members-none : (spot : Spot) (spots : List Spot) (s : List ℕ) → value_in spot s ≡ None → members (spot ∷ spots) s ≡ None
members-none spot spots s e = rw e refl
