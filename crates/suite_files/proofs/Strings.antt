-- Texts as strings.
use Rattle.std.proofs.Common.{◌≡◌, ◌∙◌, ◌+◌, ◌<◌, ◌++◌, [], ◌∷◌, ℕ, Bool, List, add-one, ap, length, refl, subst, suc, sym, take}
use Rattle.std.proofs.Math.Seq.{take-suc}
use Rattle.std.proofs.lemmas.List.{map-append}
use Rattle.std.proofs.lemmas.List.Elements.{All-append, All-cons, All-nil}
use Rattle.std.specs.Borrow.{Bor}
use Rattle.std.specs.List.{All, list_all}
use Rattle.std.specs.Prelude.{◌&&◌, get_or, nat_le}
use Rattle.std.specs.Str.{IsUtf8}
use Rattle.bpf_load.specs.Targets.{texts}

-- what each of some strings has, its text has
pub all-texts : (P : List ℕ → Bool) (all : List (Bor (List ℕ))) → list_all (λ text. P text.now) all ≡ list_all P (texts all)
all-texts P [] = refl
all-texts P (text ∷ all) = ap (λ b. P text.now && b) (all-texts P all)

as-many : (all : List (Bor (List ℕ))) → length all ≡ length (texts all)
as-many [] = refl
as-many (text ∷ all) = ap (λ (n : ℕ). suc n) (as-many all)

pub fits-texts : (most : ℕ) (P : List ℕ → Bool) (all : List (Bor (List ℕ)))
    → (nat_le (length all) most && list_all (λ text. P text.now) all) ≡ (nat_le (length (texts all)) most && list_all P (texts all))
fits-texts most P all = ap (λ (n : ℕ). nat_le n most && list_all (λ text. P text.now) all) (as-many all)
    ∙ ap (λ (b : Bool). nat_le (length (texts all)) most && b) (all-texts P all)

-- one text more
pub more-texts : (all : List (List ℕ)) (k : ℕ) (strs : List (Bor (List ℕ))) (str : Bor (List ℕ)) → k < length all → str.now ≡ get_or all k []
    → texts strs ≡ take k all → texts (strs ++ str ∷ []) ≡ take (k + 1) all
more-texts all k strs str inside is same =
    map-append (λ (t : Bor (List ℕ)). t.now) strs (str ∷ []) ∙ ap (λ (ts : List (List ℕ)). ts ++ str.now ∷ []) same
    ∙ ap (λ (t : List ℕ). take k all ++ t ∷ []) is ∙ sym (take-suc all k [] inside) ∙ ap (λ (n : ℕ). take n all) (sym (add-one k))

pub more-utf8 : (all : List (List ℕ)) (k : ℕ) → k < length all → IsUtf8 (get_or all k []) → All IsUtf8 (take k all) → All IsUtf8 (take (k + 1) all)
more-utf8 all k inside is before =
    subst (λ (n : ℕ). All IsUtf8 (take n all)) (sym (add-one k))
    (subst (λ (ts : List (List ℕ)). All IsUtf8 ts) (sym (take-suc all k [] inside))
    (All-append IsUtf8 (take k all) (get_or all k [] ∷ []) before (All-cons IsUtf8 (get_or all k []) [] is (All-nil IsUtf8))))
