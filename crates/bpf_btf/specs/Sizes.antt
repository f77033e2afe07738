-- Types behind names and qualifiers, and how many bytes they have, as libbpf reads them (skip_mods_and_typedefs, btf__resolve_size).
use Rattle.std.specs.Prelude.{ℕ, zero, suc, ◌+◌, ◌*◌, ◌==◌, min, Bool, ◌||◌, if◌then◌else◌, Option, Some, None}
use Rattle.bpf_btf.specs.declared.layout.TypeEntry.{TypeEntry}
use Rattle.bpf_btf.specs.declared.sizes.Values.{Values}
use Rattle.bpf_btf.specs.Layout.{array_entry}
use Rattle.bpf_btf.specs.Types.{Types, start_of, type_of}

-- A name or a qualifier of another type: TYPEDEF, 8, VOLATILE, 9, CONST, 10, RESTRICT, 11, TYPE_TAG, 18.
abbrev pub is_modifier : TypeEntry → Bool
is_modifier entry = (entry.kind == 8) || ((entry.kind == 9) || ((entry.kind == 10) || ((entry.kind == 11) || (entry.kind == 18))))

-- The type behind one name or qualifier, where it is one; and behind at most so many.
abbrev pub link : Types → ℕ → ℕ
link types id = if is_modifier (type_of types id) then (type_of types id).of else id

abbrev pub links : Types → ℕ → ℕ → ℕ
links types id zero = id
links types id (suc n) = link types (links types id n)

-- At most 32 of them are gone behind: MAX_RESOLVE_DEPTH of libbpf and of the kernel.
unfoldable pub most_links : ℕ
most_links = 32

abbrev pub resolved : Types → ℕ → ℕ
resolved types id = links types id most_links

-- What so many values of a type consist of: what a name stands for, and the elements of an array, ARRAY, 3. A number of values above 2^32 counts as that:
-- it is far above what a map may have.
abbrev pub parts : Types → Values → Values
parts types values =
    let entry = type_of types values.of in
    let array = array_entry types.bytes (start_of types values.of + 12) in
    if is_modifier entry then record { of = entry.of; times = values.times }
    else (if entry.kind == 3 then record { of = array.of; times = min (values.times * array.count) 4294967296 } else values)

abbrev pub all_parts : Types → ℕ → ℕ → Values
all_parts types id zero = record { of = id; times = 1 }
all_parts types id (suc n) = parts types (all_parts types id n)

-- Types that say how many bytes they have: INT, 1, STRUCT, 4, UNION, 5, ENUM, 6, FLOAT, 16, ENUM64, 19. A pointer, PTR, 2, has 8.
abbrev pub says_size : TypeEntry → Bool
says_size entry =
    (entry.kind == 1) || ((entry.kind == 4) || ((entry.kind == 5) || ((entry.kind == 6) || ((entry.kind == 16) || (entry.kind == 19)))))

abbrev pub own_size : TypeEntry → Option ℕ
own_size entry = if says_size entry then Some entry.of else (if entry.kind == 2 then Some 8 else None)

-- So many bytes of values; what is more than 2^32 - 1 counts as that.
abbrev pub total_of : Option ℕ → ℕ → Option ℕ
total_of None times = None
total_of (Some size) times = Some (min (times * size) 4294967295)

-- The size of a type, behind at most 32 names, qualifiers and arrays.
abbrev pub size_of : Types → ℕ → Option ℕ
size_of types id = let values = all_parts types id most_links in total_of (own_size (type_of types values.of)) values.times
