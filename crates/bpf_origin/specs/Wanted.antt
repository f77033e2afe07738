-- Wanted places, in the order in which they came to be wanted, no two alike.
use Rattle.std.specs.Prelude.{ℕ, ◌-◌, Bool, not, if◌then◌else◌, List, [], ◌∷◌, ◌++◌, filter, flat_map}
use Rattle.std.specs.List.{list_any}
use Rattle.bpf_entries.specs.declared.entry.Entry.{Entry}
use Rattle.bpf_entries.specs.Past.{Frames, Fewer, past}
use Rattle.bpf_steps.specs.State.{State, depth}
use Rattle.bpf_origin.specs.declared.place.Place.{Place}
use Rattle.bpf_origin.specs.declared.place.Place.TheVariants.{Register}
use Rattle.bpf_origin.specs.declared.place.Part.{Part}
use Rattle.bpf_origin.specs.Places.{same, has, places_of}
use Rattle.bpf_origin.specs.Writes.{written}

-- The most places that are wanted at one time.
abbrev pub most_places : ℕ
most_places = 4096

abbrev pub is_in : Place → List Place → Bool
is_in p wanted = list_any (same p) wanted

-- One more place is wanted, or all of some.
abbrev pub want : List Place → Place → List Place
want wanted p = if is_in p wanted then wanted else wanted ++ p ∷ []

unfoldable pub want_all : List Place → List Place → List Place
want_all wanted [] = wanted
want_all wanted (p ∷ ps) = want_all (want wanted p) ps

abbrev pub want_parts : List Place → List Part → List Place
want_parts wanted parts = want_all wanted (flat_map places_of parts)

-- Whether a place is among the parts that a move wrote, whether some wanted one is, and the wanted ones that are not.
abbrev pub is_among : List Part → Place → Bool
is_among parts p = list_any (λ q. has q p) parts

abbrev pub are_hit : List Part → List Place → Bool
are_hit parts wanted = list_any (is_among parts) wanted

abbrev pub spared : List Part → List Place → List Place
spared parts wanted = filter (λ p. not (is_among parts p)) wanted

-- A register of the function at depth d, if it is wanted, is wanted of its caller; before a call so are r6 to r9.
abbrev pub handed : ℕ → ℕ → List Place → List Place
handed d r wanted =
    if is_in (Register d r) wanted then want (filter (λ p. not (same (Register d r) p)) wanted) (Register (d - 1) r) else wanted

abbrev pub carried : Frames → ℕ → List Place → List Place
carried Fewer d wanted = handed d 9 (handed d 8 (handed d 7 (handed d 6 wanted)))
carried _ d wanted = wanted

-- What is wanted still before the move with this entry, which led to y.
abbrev pub still_wanted : State → Entry → List Place → List Place
still_wanted y e wanted = carried (past (depth y) e).frames (depth y) (spared (written y e) wanted)
