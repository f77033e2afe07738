-- Bytes that follow one another, as one part.
use Rattle.std.proofs.Common.{◌≡◌, ◌+◌, ◌<◌, ℕ, List, [], ◌∷◌, ◌++◌, Option, Some, None, drop, length, get_or, flat_map, refl, sym, ap, ◌∙◌, arith}
use Rattle.std.specs.Option.{option_map_or}
use Rattle.std.proofs.lemmas.List.{drop_more, drop_all}
use Rattle.bpf_origin.specs.declared.place.Part.{Part}
use Rattle.bpf_origin.specs.declared.place.Place.{Place}
use Rattle.bpf_origin.specs.Texts.{grown, joined, part_of}

-- the next place, by what becomes of the part before it
abbrev by : List Place → Part → Place → Option Part → List Part
by ps run p found = option_map_or (λ longer. joined longer ps) found (run ∷ joined (part_of p) ps)

one-more : (run : Part) (p : Place) (ps : List Place) → joined run (p ∷ ps) ≡ by ps run p (grown run p)
unfolding joined
one-more run p ps = refl

next : (run : Part) (xs : List Place) (k : ℕ) (d : Place) (found : Option Part) → k < length xs → grown run (get_or xs k d) ≡ found
    → joined run (drop k xs) ≡ by (drop (k + 1) xs) run (get_or xs k d) found
next run xs k d found inside e =
    ap (joined run) (drop_more xs k d inside)
    ∙ one-more run (get_or xs k d) (drop (k + 1) xs)
    ∙ ap (by (drop (k + 1) xs) run (get_or xs k d)) e

-- a byte behind it
pub joined-longer : (line : Part → List ℕ) (run longer : Part) (xs : List Place) (k : ℕ) (d : Place) → k < length xs
    → grown run (get_or xs k d) ≡ Some longer → flat_map line (joined run (drop k xs)) ≡ flat_map line (joined longer (drop (k + 1) xs))
joined-longer line run longer xs k d inside e = ap (flat_map line) (next run xs k d (Some longer) inside e)

-- another place
pub joined-next : (line : Part → List ℕ) (run other : Part) (xs : List Place) (k : ℕ) (d : Place) → k < length xs
    → grown run (get_or xs k d) ≡ None → other ≡ part_of (get_or xs k d)
    → flat_map line (joined run (drop k xs)) ≡ line run ++ flat_map line (joined other (drop (k + 1) xs))
joined-next line run other xs k d inside e is =
    ap (flat_map line) (next run xs k d None inside e) ∙ ap (λ (q : Part). line run ++ flat_map line (joined q (drop (k + 1) xs))) (sym is)

-- behind the last one
joined-none : (line : Part → List ℕ) (run : Part) → flat_map line (joined run []) ≡ line run ++ []
unfolding joined
joined-none line run = refl

pub joined-end : (line : Part → List ℕ) (run : Part) (xs : List Place) (k : ℕ) → k ≡ length xs
    → flat_map line (joined run (drop k xs)) ≡ line run ++ []
joined-end line run xs k all = ap (λ (ps : List Place). flat_map line (joined run ps)) (drop_all k xs (omega (arith, all))) ∙ joined-none line run
