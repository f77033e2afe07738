-- What ran of a program by the lines of its source, as lcov has it in its tracefiles (geninfo(1)): a record of each file. A line ran if an instruction
-- of it did. Of several conditional jumps in a line each is a block of its own, named by its slot.
use Rattle.std.specs.Prelude.{ℕ, ◌+◌, ◌==◌, ◌&&◌, ◌||◌, ◌≡◌, not, Bool, true, false, List, [], ◌∷◌, ◌++◌, codes, count_by, flat_map, length, slice_get, unwrap_or}
use Rattle.std.specs.List.{list_any}
use Rattle.std.specs.Str.{bytes_eq}
use Rattle.bpfdb_script.specs.Shown.{shown}
use Rattle.bpf_cover.specs.Coverage.{has_run}
use Rattle.bpf_cover.specs.Places.{AreInOrder, spots_of}
use Rattle.bpf_cover.specs.Tracefiles.{branches_text, line_text, totals_text}
use Rattle.bpf_cover.specs.declared.coverage.Mark.{Mark}
use Rattle.bpf_cover.specs.declared.places.Spot.{Spot}

-- Places of one file, and those of one line.
abbrev pub alike : Bool → Spot → Spot → Bool
alike by_line a b = bytes_eq a.file b.file && (not by_line || a.line == b.line)

-- Places in order are cut where the next one isn't alike.
abbrev pub goes_with : Bool → Spot → List Spot → Bool
goes_with by_line spot [] = false
goes_with by_line spot (next ∷ more) = alike by_line spot next

abbrev pub onto_group : Bool → Spot → List (List Spot) → List (List Spot)
onto_group true spot (group ∷ groups) = (spot ∷ group) ∷ groups
onto_group true spot [] = (spot ∷ []) ∷ []
onto_group false spot groups = (spot ∷ []) ∷ groups

abbrev pub groups : Bool → List Spot → List (List Spot)
groups by_line [] = []
groups by_line (spot ∷ more) = onto_group (goes_with by_line spot more) spot (groups by_line more)

-- What is known of the slot of a place; nothing ran where there is no such slot.
abbrev pub nothing_known : Mark
nothing_known = record { starts = false; forks = false; went_on = false; jumped = false }

abbrev pub mark_of : List Mark → Spot → Mark
mark_of marks spot = unwrap_or (slice_get marks spot.slot) nothing_known

-- The places of a line: whether it ran, and which ways its conditional jumps went.
abbrev pub line_ran : List Mark → List Spot → Bool
line_ran marks spots = list_any (λ spot. has_run (mark_of marks spot)) spots

abbrev pub jump_text : List Mark → Spot → List ℕ
jump_text marks spot = branches_text spot.line spot.slot (mark_of marks spot)

abbrev pub group_text : List Mark → List Spot → List ℕ
group_text marks [] = []
group_text marks (spot ∷ more) = line_text spot.line (line_ran marks (spot ∷ more)) ++ flat_map (jump_text marks) (spot ∷ more)

-- How many conditional jumps of two ways places have, and how many of these ways were taken.
abbrev pub forks_of : List Mark → List Spot → ℕ
forks_of marks spots = count_by (λ spot. (mark_of marks spot).forks) spots

abbrev pub taken_of : List Mark → List Spot → ℕ
taken_of marks spots =
    count_by (λ spot. (mark_of marks spot).forks && (mark_of marks spot).went_on) spots
    + count_by (λ spot. (mark_of marks spot).forks && (mark_of marks spot).jumped) spots

-- The record of the places of a file.
abbrev pub record_of : List Mark → List ℕ → List Spot → List ℕ
record_of marks file spots =
    codes "TN:\nSF:" ++ shown file ++ codes "\n" ++ flat_map (group_text marks) (groups true spots)
    ++ totals_text (length (groups true spots)) (count_by (line_ran marks) (groups true spots)) (forks_of marks spots) (taken_of marks spots)

abbrev pub file_text : List Mark → List Spot → List ℕ
file_text marks [] = []
file_text marks (spot ∷ more) = record_of marks spot.file (spot ∷ more)

abbrev pub records_text : List Mark → List Spot → List ℕ
records_text marks spots = flat_map (file_text marks) (groups false spots)

-- The records of all files that a table names.
abbrev pub AreRecords : List Mark → List ℕ → List ℕ → Type 0
AreRecords marks table text = (ordered : List Spot) × AreInOrder (spots_of table) ordered × (text ≡ records_text marks ordered)
