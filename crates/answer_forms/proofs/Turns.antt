-- One turn of a loop that appends texts, or that looks for the first shape that fits.
use Rattle.std.proofs.Common.{◌≡◌, ◌+◌, ◌-◌, ◌<◌, ℕ, Bool, List, ◌∷◌, ◌++◌, Option, Some, None, drop, take, flat_map, get_or, length, map, sym, ap, ◌∙◌, append_assoc}
use Rattle.std.specs.Prelude.{◌&&◌, not}
use Rattle.std.specs.Option.{option_and_then, option_map_or}
use Rattle.std.proofs.lemmas.List.{drop_more, take_rest}
use Rattle.counted_io.specs.Lines.{trim_start}
use Rattle.answer_forms.specs.Moves.{is_part, next, part_at, parts_from, spaced}
use Rattle.answer_forms.specs.Objects.{object_by, object_of, told_by, whole}
use Rattle.answer_forms.specs.Shapes.{fields, pattern_of}
use Rattle.answer_forms.specs.declared.shape.Shape.{Shape}

-- what is told is told of the first, and the rest of the others
appended : (now new first rest whole : List ℕ) → new ≡ now ++ first → now ++ (first ++ rest) ≡ whole → new ++ rest ≡ whole
appended now new first rest whole e h = ap (λ (xs : List ℕ). xs ++ rest) e ∙ append_assoc now first rest ∙ h

-- of the next element
pub next-text : {X : Type 0} (f : X → List ℕ) (xs : List X) (k : ℕ) (d : X) (now new whole : List ℕ) → k < length xs → new ≡ now ++ f (get_or xs k d)
    → now ++ flat_map f (drop k xs) ≡ whole → new ++ flat_map f (drop (k + 1) xs) ≡ whole
next-text f xs k d now new whole inside e h =
    appended now new (f (get_or xs k d)) (flat_map f (drop (k + 1) xs)) whole e
    (ap (λ (t : List ℕ). now ++ t) (sym (ap (flat_map f) (drop_more xs k d inside))) ∙ h)

-- of the first piece
pub first-text : {X : Type 0} (f : X → List ℕ) (x : X) (old rest : List X) (now new whole : List ℕ) → old ≡ x ∷ rest → new ≡ now ++ f x
    → now ++ flat_map f old ≡ whole → new ++ flat_map f rest ≡ whole
first-text {X = X} f x old rest now new all is e h =
    appended now new (f x) (flat_map f rest) all e (ap (λ (ys : List X). now ++ flat_map f ys) (sym is) ∙ h)

-- of the first part
pub first-part : (first first' : Bool) (s : List ℕ) (old rest : List (List ℕ)) (now new whole : List ℕ) → old ≡ s ∷ rest
    → new ≡ now ++ part_at first (trim_start s) → first' ≡ (first && not (is_part (trim_start s)))
    → now ++ parts_from first old ≡ whole → new ++ parts_from first' rest ≡ whole
first-part first first' s old rest now new whole is e f h =
    ap (λ (b : Bool). new ++ parts_from b rest) f
    ∙ appended now new (part_at first (trim_start s)) (parts_from (first && not (is_part (trim_start s))) rest) whole e
    (ap (λ (ys : List (List ℕ)). now ++ parts_from first ys) (sym is) ∙ h)

-- of the next byte
pub next-spaced : (of_parts : Bool) (xs : List ℕ) (k d : ℕ) (now new whole : List ℕ) → k < length xs
    → new ≡ now ++ next of_parts (get_or xs k d) (take (length xs - (k + 1)) (drop (k + 1) xs)) → now ++ spaced of_parts (drop k xs) ≡ whole
    → new ++ spaced of_parts (drop (k + 1) xs) ≡ whole
next-spaced of_parts xs k d now new whole inside e h =
    appended now new (next of_parts (get_or xs k d) (drop (k + 1) xs)) (spaced of_parts (drop (k + 1) xs)) whole
    (e ∙ ap (λ (s : List ℕ). now ++ next of_parts (get_or xs k d) s) (take_rest xs (k + 1)))
    (ap (λ (t : List ℕ). now ++ t) (sym (ap (spaced of_parts) (drop_more xs k d inside))) ∙ h)

-- a shape that a line doesn't have
pub other-shape : (side : List ℕ) (shapes : List Shape) (k : ℕ) (d : Shape) (line : List ℕ) → k < length shapes
    → object_by side (pattern_of (get_or shapes k d)) line ≡ None
    → object_of side (map pattern_of (drop k shapes)) line ≡ object_of side (map pattern_of (drop (k + 1) shapes)) line
other-shape side shapes k d line inside none =
    ap (λ (ss : List Shape). object_of side (map pattern_of ss) line) (drop_more shapes k d inside)
    ∙ ap (λ (o : Option (List ℕ)). option_map_or (λ text. text) o (object_of side (map pattern_of (drop (k + 1) shapes)) line)) none

-- one that it has
pub this-shape : (side : List ℕ) (shapes : List Shape) (k : ℕ) (d : Shape) (line text : List ℕ) → k < length shapes
    → object_by side (pattern_of (get_or shapes k d)) line ≡ Some text
    → object_of side (map pattern_of (drop k shapes)) line ≡ text
this-shape side shapes k d line text inside some =
    ap (λ (ss : List Shape). object_of side (map pattern_of ss) line) (drop_more shapes k d inside)
    ∙ ap (λ (o : Option (List ℕ)). option_map_or (λ text. text) o (object_of side (map pattern_of (drop (k + 1) shapes)) line)) some

-- the same of a piece
pub other-piece : (shapes : List Shape) (k : ℕ) (d : Shape) (s : List ℕ) → k < length shapes
    → option_and_then whole (fields (pattern_of (get_or shapes k d)) s) ≡ None
    → told_by (map pattern_of (drop k shapes)) s ≡ told_by (map pattern_of (drop (k + 1) shapes)) s
other-piece shapes k d s inside none =
    ap (λ (ss : List Shape). told_by (map pattern_of ss) s) (drop_more shapes k d inside)
    ∙ ap (λ (o : Option (List ℕ)). option_map_or (λ told. told) o (told_by (map pattern_of (drop (k + 1) shapes)) s)) none

pub this-piece : (shapes : List Shape) (k : ℕ) (d : Shape) (s text : List ℕ) → k < length shapes
    → option_and_then whole (fields (pattern_of (get_or shapes k d)) s) ≡ Some text
    → told_by (map pattern_of (drop k shapes)) s ≡ text
this-piece shapes k d s text inside some =
    ap (λ (ss : List Shape). told_by (map pattern_of ss) s) (drop_more shapes k d inside)
    ∙ ap (λ (o : Option (List ℕ)). option_map_or (λ told. told) o (told_by (map pattern_of (drop (k + 1) shapes)) s)) some
