-- Where symbols lie in a joined object.
use Rattle.std.specs.Prelude.{ℕ, ◌+◌, ◌*◌, ◌%◌, ◌==◌, nat_lt, nat_le, min, Bool, ◌&&◌, List, Option, Some, None, length, position, slice_range, if◌then◌else◌}
use Rattle.bpf_btf.specs.Maps.{last_below}
use Rattle.bpf_link.specs.MapTypes.{name_from}
use Rattle.bpf_link.specs.Parts.{slots_in}
use Rattle.bpf_link.specs.Patches.{is_map}
use Rattle.bpf_link.specs.Plans.{symbol_place}
use Rattle.bpf_link.specs.Sections.{name_at}
use Rattle.bpf_link.specs.Tables.{symbol_at}
use Rattle.bpf_link.specs.declared.layout.SymbolEntry.{SymbolEntry}
use Rattle.bpf_link.specs.declared.plan.Plan.{Plan}
use Rattle.bpf_join.specs.Codes.{own_slots}
use Rattle.bpf_join.specs.declared.spots.Spot.{Spot}

-- A place in a section, moved on by so many slots; what would lie behind 2^64 has no place.
abbrev pub on_by : ℕ → ℕ → ℕ
on_by slots value = min (value + 8 * slots) 18446744073709551615

-- The byte of a symbol's binding and kind, st_info; and that of a local symbol, as those are which have come into the section, so that none of them is taken
-- for its entry.
abbrev pub info_of : SymbolEntry → ℕ
info_of symbol = symbol.binding % 16 * 16 + symbol.kind % 16

abbrev pub local_info : SymbolEntry → ℕ
local_info symbol = symbol.kind % 16

-- A symbol of the first object stays where it is; `.text` has come behind the section.
abbrev pub stays : Plan → SymbolEntry → Spot
stays first symbol =
    if nat_lt 0 symbol.section && (symbol.section == first.parts.text.section)
    then record { section = first.parts.code.section; value = on_by (slots_in first.parts.code) symbol.value; info = local_info symbol }
    else record { section = symbol.section; value = symbol.value; info = info_of symbol }

-- One of the second object: its functions come behind the first one's code, and its other sections behind the first one's sections. Undefined ones stay so;
-- the numbers that name no section are one of those (SHN_ABS).
abbrev pub comes : Plan → Plan → SymbolEntry → Spot
comes first second symbol =
    if symbol.section == 0 then record { section = 0; value = symbol.value; info = info_of symbol }
    else (if symbol.section == second.parts.code.section
    then record { section = first.parts.code.section; value = on_by (own_slots first) symbol.value; info = local_info symbol }
    else (if nat_lt symbol.section (length second.object.sections)
    then record { section = length first.object.sections + symbol.section; value = symbol.value; info = info_of symbol }
    else record { section = 0xfff1; value = symbol.value; info = info_of symbol }))

-- At most 256 bytes of a symbol's name.
abbrev pub name_at_most : List ℕ → ℕ → List ℕ
name_at_most bytes at = name_from (slice_range bytes at (min (at + 256) (length bytes))) 0

abbrev pub own_name : Plan → SymbolEntry → List ℕ
own_name first symbol = name_at_most first.object.bytes (symbol_place first symbol)

-- A symbol of the first object is undefined, and has a name of 1 to 255 bytes.
abbrev pub is_wanted : Plan → SymbolEntry → Bool
is_wanted first symbol = (symbol.section == 0) && (nat_lt 0 (length (own_name first symbol)) && nat_le (length (own_name first symbol)) 255)

-- A symbol of the second one has a name, lies in a section and is known outside the object.
abbrev pub offers : Plan → List ℕ → SymbolEntry → Bool
offers second name symbol =
    nat_lt 0 symbol.binding && (nat_lt 0 symbol.section && (nat_lt symbol.section (length second.object.sections)
    && name_at second.object.bytes (symbol_place second symbol) name))

-- The symbol of a name of the second object, the last one if there are several.
abbrev pub offered : Plan → List ℕ → Option ℕ
offered second name = last_below (λ i. offers second name (symbol_at second.symbols i)) (length second.symbols)

abbrev pub found_spot : Plan → Plan → SymbolEntry → Option ℕ → Spot
found_spot first second symbol None = stays first symbol
found_spot first second symbol (Some i) = comes first second (symbol_at second.symbols i)

-- The records of the first one's maps stand in a section of their own, 64 bytes each.
abbrev pub record_spot : ℕ → ℕ → SymbolEntry → Spot
record_spot records k symbol = record { section = records; value = 64 * k; info = info_of symbol }

-- Which of the maps at some places a symbol of the first object names.
abbrev pub map_of : Plan → List ℕ → SymbolEntry → Option ℕ
map_of first places symbol = if is_map first.maps symbol then position (λ place. place == symbol.value) places else None

-- A symbol of the first object that names a map which has a record; an undefined one that the second object offers; any other one.
abbrev pub other_spot : Plan → Plan → SymbolEntry → Spot
other_spot first second symbol =
    if is_wanted first symbol then found_spot first second symbol (offered second (own_name first symbol)) else stays first symbol

abbrev pub spot_by : Plan → Plan → ℕ → SymbolEntry → Option ℕ → Spot
spot_by first second records symbol None = other_spot first second symbol
spot_by first second records symbol (Some k) = record_spot records k symbol

abbrev pub own_spot : Plan → Plan → List ℕ → ℕ → SymbolEntry → Spot
own_spot first second places records symbol = spot_by first second records symbol (map_of first places symbol)
