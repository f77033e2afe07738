-- Places in groups of neighbours that are alike.
use Rattle.std.proofs.Common.{ℕ, ◌≡◌, ◌<◌, ◌≤◌, ◌+◌, ◌-◌, Bool, true, false, List, [], ◌∷◌, ◌++◌, append_assoc, take, length, get_or, refl, ap, sym, ◌∙◌, arith}
use Rattle.std.specs.Prelude.{drop, flat_map}
use Rattle.std.proofs.lemmas.List.{drop-drop, drop_all, drop_more, get_or_default, take_more}
use Rattle.bpf_cover.proofs.Placing.{drop-last}
use Rattle.bpf_cover.specs.Sources.{alike, file_text, goes_with, group_text, groups, jump_text, line_ran, onto_group, record_of}
use Rattle.bpf_cover.specs.Tracefiles.{line_text}
use Rattle.bpf_cover.specs.declared.coverage.Mark.{Mark}
use Rattle.bpf_cover.specs.declared.places.Spot.{Spot}

-- the places so far in front of the first group of the others
abbrev pub onto-front : List Spot → List (List Spot) → List (List Spot)
onto-front front [] = front ∷ []
onto-front front (group ∷ more) = (front ++ group) ∷ more

front-more : (front : List Spot) (spot : Spot) (gs : List (List Spot)) → onto-front front (onto_group true spot gs) ≡ onto-front (front ++ spot ∷ []) gs
front-more front spot [] = refl
front-more front spot (group ∷ more) = ap (λ (g : List Spot). g ∷ more) (sym (append_assoc front (spot ∷ []) group))

front-none : (b : Bool) (spot : Spot) (gs : List (List Spot)) → onto_group b spot gs ≡ onto-front [] (onto_group b spot gs)
front-none true spot [] = refl
front-none true spot (group ∷ more) = refl
front-none false spot gs = refl

pub groups-begin : (by_line : Bool) (spots : List Spot) → 0 < length spots → groups by_line spots ≡ onto-front (take 0 spots) (groups by_line (drop 0 spots))
groups-begin by_line [] h = absurd (omega (arith, h))
groups-begin by_line (spot ∷ more) h = front-none (goes_with by_line spot more) spot (groups by_line more)

take-last : (xs : List Spot) (end : ℕ) (d : Spot) → 0 < end → end ≤ length xs → take end xs ≡ take (end - 1) xs ++ get_or xs (end - 1) d ∷ []
take-last xs end d h most =
    let last : (end - 1) + 1 ≡ end = omega (arith, h) in
    ap (λ n. take n xs) (sym last) ∙ take_more xs (end - 1) d (omega (arith, h, most))

-- the last place so far, and the others
groups-at : (by_line : Bool) (spots : List Spot) (end : ℕ) (d : Spot) → 0 < end → end ≤ length spots
    → groups by_line (drop (end - 1) spots)
    ≡ onto_group (goes_with by_line (get_or spots (end - 1) d) (drop end spots)) (get_or spots (end - 1) d) (groups by_line (drop end spots))
groups-at by_line spots end d h most = ap (groups by_line) (drop-last spots end d h most)

pub groups-more : (by_line : Bool) (spots : List Spot) (end : ℕ) (d : Spot) → 0 < end → end < length spots
    → alike by_line (get_or spots (end - 1) d) (get_or spots end d) ≡ true
    → groups by_line spots ≡ onto-front (take (end - 1) spots) (groups by_line (drop (end - 1) spots))
    → groups by_line spots ≡ onto-front (take end spots) (groups by_line (drop end spots))
groups-more by_line spots end d h less same known =
    let spot = get_or spots (end - 1) d in
    let others = groups by_line (drop end spots) in
    let goes : goes_with by_line spot (drop end spots) ≡ true = ap (goes_with by_line spot) (drop_more spots end d less) ∙ same in
    known ∙ ap (onto-front (take (end - 1) spots)) (groups-at by_line spots end d h (omega (arith, less)))
    ∙ ap (λ (b : Bool). onto-front (take (end - 1) spots) (onto_group b spot others)) goes ∙ front-more (take (end - 1) spots) spot others
    ∙ ap (λ (front : List Spot). onto-front front others) (sym (take-last spots end d h (omega (arith, less))))

groups-cut : (by_line : Bool) (spots : List Spot) (end : ℕ) (d : Spot) → 0 < end → end ≤ length spots
    → goes_with by_line (get_or spots (end - 1) d) (drop end spots) ≡ false
    → groups by_line spots ≡ onto-front (take (end - 1) spots) (groups by_line (drop (end - 1) spots))
    → groups by_line spots ≡ take end spots ∷ groups by_line (drop end spots)
groups-cut by_line spots end d h most goes known =
    let spot = get_or spots (end - 1) d in
    let others = groups by_line (drop end spots) in
    known ∙ ap (onto-front (take (end - 1) spots)) (groups-at by_line spots end d h most)
    ∙ ap (λ (b : Bool). onto-front (take (end - 1) spots) (onto_group b spot others)) goes
    ∙ ap (λ (front : List Spot). front ∷ others) (sym (take-last spots end d h most))

pub groups-other : (by_line : Bool) (spots : List Spot) (end : ℕ) (d : Spot) → 0 < end → end < length spots
    → alike by_line (get_or spots (end - 1) d) (get_or spots end d) ≡ false
    → groups by_line spots ≡ onto-front (take (end - 1) spots) (groups by_line (drop (end - 1) spots))
    → groups by_line spots ≡ take end spots ∷ groups by_line (drop end spots)
groups-other by_line spots end d h less other known =
    let goes = ap (goes_with by_line (get_or spots (end - 1) d)) (drop_more spots end d less) ∙ other in
    groups-cut by_line spots end d h (omega (arith, less)) goes known

pub groups-end : (by_line : Bool) (spots : List Spot) (end : ℕ) (d : Spot) → 0 < end → end ≡ length spots
    → groups by_line spots ≡ onto-front (take (end - 1) spots) (groups by_line (drop (end - 1) spots))
    → groups by_line spots ≡ take end spots ∷ groups by_line (drop end spots)
groups-end by_line spots end d h all known =
    let goes = ap (goes_with by_line (get_or spots (end - 1) d)) (drop_all end spots (omega (arith, all))) in
    groups-cut by_line spots end d h (omega (arith, all)) goes known

-- the group at a place, and those behind it
groups-from : (by_line : Bool) (spots : List Spot) (start size : ℕ)
    → groups by_line (drop start spots) ≡ take size (drop start spots) ∷ groups by_line (drop size (drop start spots))
    → groups by_line (drop start spots) ≡ take (start + size - start) (drop start spots) ∷ groups by_line (drop (start + size) spots)
groups-from by_line spots start size known =
    let same : size ≡ start + size - start = omega arith in
    known ∙ ap (λ (others : List Spot). take size (drop start spots) ∷ groups by_line others) (drop-drop size start spots)
    ∙ ap (λ (n : ℕ). take n (drop start spots) ∷ groups by_line (drop (start + size) spots)) same

pub next-group : {A : Type 0} (f : List Spot → List A) (by_line : Bool) (spots : List Spot) (start size : ℕ)
    → groups by_line (drop start spots) ≡ take size (drop start spots) ∷ groups by_line (drop size (drop start spots))
    → flat_map f (groups by_line (drop start spots))
    ≡ f (take (start + size - start) (drop start spots)) ++ flat_map f (groups by_line (drop (start + size) spots))
next-group f by_line spots start size known = ap (flat_map f) (groups-from by_line spots start size known)

-- behind the last place there is none
pub no-group : {A : Type 0} (f : List Spot → List A) (by_line : Bool) (spots : List Spot) (start : ℕ) → length spots ≤ start
    → flat_map f (groups by_line (drop start spots)) ≡ []
no-group f by_line spots start all = ap (λ (others : List Spot). flat_map f (groups by_line others)) (drop_all start spots all)

-- what two places are told by, at their indices
pub same-alike : (by_line : Bool) (spots : List Spot) (end : ℕ) (a b d : Spot) → a ≡ get_or spots (end - 1) a → b ≡ get_or spots end b → 0 < end
    → end < length spots → (t : Bool) → t ≡ alike by_line a b → alike by_line (get_or spots (end - 1) d) (get_or spots end d) ≡ t
same-alike by_line spots end a b d one other h less t e =
    let first : a ≡ get_or spots (end - 1) d = one ∙ get_or_default spots (end - 1) a d (omega (arith, less)) in
    let next : b ≡ get_or spots end d = other ∙ get_or_default spots end b d less in
    sym (e ∙ ap (λ (s : Spot). alike by_line s b) first ∙ ap (alike by_line (get_or spots (end - 1) d)) next)

-- places that begin with one
pub group-of : (marks : List Mark) (spots : List Spot) (first : Spot) → 1 ≤ length spots → first ≡ get_or spots 0 first
    → line_text first.line (line_ran marks spots) ++ flat_map (jump_text marks) spots ≡ group_text marks spots
group-of marks [] first some is = absurd (omega (arith, some))
group-of marks (spot ∷ more) first some is =
    ap (λ (s : Spot). line_text s.line (line_ran marks (spot ∷ more)) ++ flat_map (jump_text marks) (spot ∷ more)) is

pub file-of : (marks : List Mark) (spots : List Spot) (first : Spot) → 1 ≤ length spots → first ≡ get_or spots 0 first
    → record_of marks first.file spots ≡ file_text marks spots
file-of marks [] first some is = absurd (omega (arith, some))
file-of marks (spot ∷ more) first some is = ap (λ (s : Spot). record_of marks s.file (spot ∷ more)) is
