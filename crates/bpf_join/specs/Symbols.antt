-- The symbols of a joined object: those of the first one, and behind them those of the second one.
use Rattle.std.specs.Prelude.{ℕ, ◌+◌, ◌*◌, ◌/◌, ◌%◌, min, nat_lt, if◌then◌else◌, List, [], ◌++◌, length, slice_range, slice_set, take, drop}
use Rattle.byteorder.specs.Endian.{little_bytes}
use Rattle.bpf_link.specs.Images.{with_u64}
use Rattle.bpf_link.specs.Layout.{symbol_entry}
use Rattle.bpf_link.specs.MapTypes.{section_bytes}
use Rattle.bpf_link.specs.Objects.{Elf, section_at}
use Rattle.bpf_link.specs.Patches.{with_u32}
use Rattle.bpf_link.specs.declared.plan.Plan.{Plan}
use Rattle.bpf_link.specs.declared.sections.Found.{Found}
use Rattle.bpf_link.specs.declared.sections.Found.TheVariants.{Only}
use Rattle.bpf_join.specs.Spots.{comes, own_spot}
use Rattle.bpf_join.specs.declared.spots.Spot.{Spot}
use Rattle.bpf_join.specs.Gathered.{gathered}

-- A number in the two bytes at a place.
abbrev pub with_u16 : List ℕ → ℕ → ℕ → List ℕ
with_u16 bytes at n = take at bytes ++ (little_bytes 2 n ++ drop (at + 2) bytes)

-- The bytes of an object's symbols, 24 each (Elf64_Sym: st_name, st_info, st_other, st_shndx, st_value, st_size).
abbrev pub table_in : Elf → Found → List ℕ
table_in object (Only i) = if nat_lt i (length object.sections) then section_bytes object (section_at object i) else []
table_in object _ = []

abbrev pub table_of : Plan → List ℕ
table_of plan = table_in plan.object plan.table

-- Those of one, with a name that stands so much further on among the names, at a spot.
abbrev pub placed : List ℕ → ℕ → Spot → List ℕ
placed raw more spot =
    with_u64 (with_u16 (slice_set (with_u32 raw 0 (min ((symbol_entry raw 0).name + more) 4294967295)) 4 spot.info) 6 (spot.section % 65536))
    8 spot.value

-- The i-th symbol of a table.
abbrev pub raw_at : List ℕ → ℕ → List ℕ
raw_at table i = slice_range table (24 * i) (24 * i + 24)

-- A symbol of the first object, whose names stand so much further on: the maps at these places have records in a section.
abbrev pub own_symbol : Plan → Plan → List ℕ → ℕ → ℕ → List ℕ → List ℕ
own_symbol first second places records more raw = placed raw more (own_spot first second places records (symbol_entry raw 0))

abbrev pub own_symbols : Plan → Plan → List ℕ → ℕ → ℕ → List ℕ
own_symbols first second places records more =
    gathered (λ i. own_symbol first second places records more (raw_at (table_of first) i)) (length (table_of first) / 24)

-- One of the second object.
abbrev pub another_symbol : Plan → Plan → ℕ → List ℕ → List ℕ
another_symbol first second more raw = placed raw more (comes first second (symbol_entry raw 0))

abbrev pub more_symbols : Plan → Plan → ℕ → List ℕ
more_symbols first second more =
    gathered (λ i. another_symbol first second more (raw_at (table_of second) i)) (length (table_of second) / 24)
