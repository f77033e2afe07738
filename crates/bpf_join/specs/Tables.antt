-- The sections of a joined object: those of the first one, behind them those of the second one, and two more.
use Rattle.std.specs.Prelude.{◌≤◌, ℕ, zero, suc, ◌+◌, ◌-◌, ◌==◌, nat_le, nat_lt, min, Bool, ◌&&◌, ◌||◌, false, List, ◌++◌, length, replicate, if◌then◌else◌}
use Rattle.bpf_isa.specs.Words.{u16_at}
use Rattle.bpf_link.specs.Images.{with_u64}
use Rattle.bpf_link.specs.Objects.{Elf, no_section, section_at}
use Rattle.bpf_link.specs.Patches.{with_u32}
use Rattle.bpf_link.specs.Sections.{is_data}
use Rattle.bpf_link.specs.declared.layout.SectionHeader.{SectionHeader}
use Rattle.bpf_link.specs.declared.plan.Plan.{Plan}
use Rattle.bpf_join.specs.Gathered.{gathered}
use Rattle.bpf_join.specs.declared.places.Places.{Places}

-- The size of an entry of a section by its kind: of symbols, of relocations with and without addends; 0 of others.
abbrev pub entry_size : ℕ → ℕ
entry_size kind = if (kind == 2) || (kind == 4) then 24 else (if kind == 9 then 16 else 0)

-- A section's header, Elf64_Shdr: sh_name, sh_type, sh_flags, (sh_addr,) sh_offset, sh_size, sh_link, sh_info, sh_addralign, sh_entsize.
abbrev pub kind_bytes : SectionHeader → List ℕ
kind_bytes it = with_u64 (with_u32 (with_u32 (replicate 64 0) 0 it.name) 4 it.kind) 8 it.flags

abbrev pub place_bytes : SectionHeader → List ℕ
place_bytes it = with_u32 (with_u32 (with_u64 (with_u64 (kind_bytes it) 24 it.offset) 32 it.size) 40 it.link) 44 it.info

abbrev pub header_bytes : SectionHeader → List ℕ
header_bytes it = with_u64 (with_u64 (place_bytes it) 48 1) 56 (entry_size it.kind)

-- A section lies at a place in the file, up to another.
abbrev pub lies_at : SectionHeader → ℕ → ℕ → SectionHeader
lies_at it from to = record it { offset = from; size = to - from }

-- The parts of a joined object lie one behind another.
pub record InOrder (places : Places) : Type 0 where
  pub code : places.code ≤ places.strings
  pub strings : places.strings ≤ places.symbols
  pub symbols : places.symbols ≤ places.relocations
  pub relocations : places.relocations ≤ places.records
  pub records : places.records ≤ places.end

-- It is `.text` that has come behind the code, or has the relocations of that or of the code.
abbrev pub is_moved : Plan → ℕ → Bool
is_moved first section = (section == first.parts.code.section) || (nat_lt 0 section && (section == first.parts.text.section))

abbrev pub is_gone : Plan → ℕ → SectionHeader → Bool
is_gone first i it = is_moved first i || (((it.kind == 9) || (it.kind == 4)) && is_moved first it.info)

-- The section of the names of sections, by e_shstrndx.
abbrev pub names_index : Elf → ℕ
names_index object = if nat_le 64 (length object.bytes) then u16_at object.bytes 62 else 0

-- A section has names of sections or of symbols.
abbrev pub is_strings : Elf → ℕ → ℕ → Bool
is_strings object table i = (i == names_index object) || (i == (section_at object table).link)

-- The i-th section of the first object, whose symbols are a section.
abbrev pub first_header : Plan → ℕ → Places → ℕ → SectionHeader
first_header first table places i =
    let it = section_at first.object i in
    if i == first.parts.code.section then lies_at it places.code places.strings
    else (if i == table then lies_at it places.symbols places.relocations
    else (if is_strings first.object table i then lies_at it places.strings places.symbols
    else (if is_gone first i it then no_section else it)))

-- The i-th one of the second object: its data stay data. They have no names.
abbrev pub second_header : Plan → Places → ℕ → SectionHeader
second_header second places i =
    let it = section_at second.object i in
    if is_data second.object it then record it { name = 0; offset = min (it.offset + places.second) 18446744073709551615 } else no_section

-- The relocations of the code, and the records of maps.
abbrev pub relocations_header : Plan → ℕ → Places → SectionHeader
relocations_header first table places = record {
  name = 0;
  kind = 9;
  flags = 0;
  offset = places.relocations;
  size = places.records - places.relocations;
  link = table;
  info = first.parts.code.section;
}

abbrev pub records_header : Places → SectionHeader
records_header places = record { name = 0; kind = 1; flags = 3; offset = places.records; size = places.end - places.records; link = 0; info = 0 }

-- The whole table.
abbrev pub first_headers : Plan → ℕ → Places → List ℕ
first_headers first table places = gathered (λ i. header_bytes (first_header first table places i)) (length first.object.sections)

abbrev pub second_headers : Plan → Places → List ℕ
second_headers second places = gathered (λ i. header_bytes (second_header second places i)) (length second.object.sections)

abbrev pub headers : Plan → Plan → ℕ → Places → List ℕ
headers first second table places =
    first_headers first table places
    ++ (second_headers second places ++ (header_bytes (relocations_header first table places) ++ header_bytes (records_header places)))

-- How many sections it has, and which one has the records.
abbrev pub records_section : Plan → Plan → ℕ
records_section first second = length first.object.sections + length second.object.sections + 1

-- Data of an object have addresses in them that are relocated.
abbrev pub points : Elf → SectionHeader → Bool
points object it =
    ((it.kind == 9) || (it.kind == 4)) && (nat_lt it.info (length object.sections) && is_data object (section_at object it.info))

abbrev pub points_below : Elf → ℕ → Bool
points_below object zero = false
points_below object (suc n) = points object (section_at object n) || points_below object n
