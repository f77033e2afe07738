-- Texts that are written in pieces, one a turn of a loop.
use Rattle.std.proofs.Common.{◌≡◌, ◌+◌, ◌-◌, ◌<◌, ℕ, List, [], ◌++◌, Option, Some, None, Result, true, inl, inr, drop, length, get_or, refl, sym, ap, subst, ◌∙◌, append_assoc, arith}
use Rattle.std.specs.Prelude.{flat_map, reverse, slice_get, nat_lt, if◌then◌else◌}
use Rattle.std.specs.Option.{option_map_or}
use Rattle.std.proofs.lemmas.Bool.Decides.{nat_tests}
use Rattle.std.proofs.lemmas.List.{append-nil, drop_more, drop_all, length-reverse, get_or-reverse}
use Rattle.std.proofs.lemmas.Option.{get_or_from_slice_get, slice_get_cases}
use Rattle.counted_io.specs.Counted.{Tally}
use Rattle.counted_io.specs.Writing.{Writes, WritesAfter}

-- what was told so far, and the rest, make up the whole
pub record Telling {W A E : Type 0} (contents : W → Option (List ℕ)) (old : Tally W) (before : Result A E) (now : Tally W) (result : Result A E) (rest whole : List ℕ) : Type 0 where
  pub told : List ℕ
  pub written : WritesAfter contents old before now result told
  pub parts : told ++ rest ≡ whole

-- no text is written at first
pub WritesAfter-nothing : {W A E : Type 0} (contents : W → Option (List ℕ)) (old : Tally W) (before : Result A E) → WritesAfter contents old before old before []
WritesAfter-nothing contents old before = λ first front known. subst (Writes contents first old before) (sym (append-nil front)) known

module _ {W A E : Type 0} (contents : W → Option (List ℕ)) (old : Tally W) (before : Result A E) where
  -- nothing yet
  pub Telling-start : (whole : List ℕ) → Telling contents old before old before whole whole
  Telling-start whole = record {
    told = [];
    written = WritesAfter-nothing contents old before;
    parts = refl;
  }

  -- one more piece
  pub Telling-step : (now new : Tally W) (middle after : Result A E) (piece rest more whole : List ℕ)
      → Telling contents old before now middle rest whole → WritesAfter contents now middle new after piece → rest ≡ piece ++ more
      → Telling contents old before new after more whole
  Telling-step now new middle after piece rest more whole t w e = record {
    told = t.told ++ piece;
    written = λ first front known. subst (Writes contents first new after) (append_assoc front t.told piece) (w first _ (t.written first front known));
    parts = append_assoc t.told piece more ∙ ap (λ (xs : List ℕ). t.told ++ xs) (sym e) ∙ t.parts;
  }

  -- no more
  pub Telling-end : (now : Tally W) (after : Result A E) (rest whole : List ℕ)
      → Telling contents old before now after rest whole → rest ≡ [] → WritesAfter contents old before now after whole
  Telling-end now after rest whole t e = λ first front known.
      let full : t.told ≡ whole = sym (append-nil t.told) ∙ ap (λ (xs : List ℕ). t.told ++ xs) (sym e) ∙ t.parts in
      subst (λ (xs : List ℕ). Writes contents first now after (front ++ xs)) full (t.written first front known)

-- the pieces from an element of a list on
pub pieces-next : {X : Type 0} (f : X → List ℕ) (xs : List X) (k : ℕ) (d : X) → k < length xs
    → flat_map f (drop k xs) ≡ f (get_or xs k d) ++ flat_map f (drop (k + 1) xs)
pieces-next f xs k d inside = ap (flat_map f) (drop_more xs k d inside)

pub pieces-end : {X : Type 0} (f : X → List ℕ) (xs : List X) (k : ℕ) → k ≡ length xs → flat_map f (drop k xs) ≡ []
pieces-end f xs k all = ap (flat_map f) (drop_all k xs (omega (arith, all)))

-- the same of a list that is read from its end
pieces-found : {X : Type 0} (f : X → List ℕ) (xs : List X) (k : ℕ) (x : X) → k < length xs → slice_get xs (length xs - 1 - k) ≡ Some x
    → flat_map f (drop k (reverse xs)) ≡ f x ++ flat_map f (drop (k + 1) (reverse xs))
pieces-found {X = X} f xs k x inside found =
    let within : k < length (reverse xs) = omega (arith, length-reverse xs) in
    let same : get_or (reverse xs) k x ≡ x = get_or-reverse xs k x inside ∙ get_or_from_slice_get xs (length xs - 1 - k) x x found in
    pieces-next f (reverse xs) k x within ∙ ap (λ (y : X). f y ++ flat_map f (drop (k + 1) (reverse xs))) same

pub pieces-back : {X : Type 0} (f : X → List ℕ) (xs : List X) (k : ℕ) → k < length xs
    → flat_map f (drop k (reverse xs))
    ≡ option_map_or f (if nat_lt k (length xs) then slice_get xs (length xs - 1 - k) else None) [] ++ flat_map f (drop (k + 1) (reverse xs))
pieces-back f xs k inside =
    let t : nat_lt k (length xs) ≡ true = grind (arith, nat_tests) in
    elim (slice_get_cases xs (length xs - 1 - k)).1 [
      | inl p ↦ rw t (rw p.2 (pieces-found f xs k p.0 inside p.2))
      | inr q ↦ absurd (omega (arith, q.0, inside))
    ]

pub pieces-back-end : {X : Type 0} (f : X → List ℕ) (xs : List X) (k : ℕ) → k ≡ length xs → flat_map f (drop k (reverse xs)) ≡ []
pieces-back-end f xs k all = pieces-end f (reverse xs) k (omega (arith, length-reverse xs, all))
