-- What the data of a program are at its start: the bytes of their sections, with the addresses in them.
use Rattle.std.specs.Prelude.{ℕ, ◌+◌, ◌-◌, ◌*◌, ◌/◌, ◌%◌, ◌==◌, nat_le, nat_lt, if◌then◌else◌, List, [], ◌++◌, Result, Ok, length, take, drop, replicate, slice_range}
use Rattle.byteorder.specs.Endian.{little_bytes}
use Rattle.bpf_link.specs.declared.fault.LinkFault.{LinkFault}
use Rattle.bpf_link.specs.declared.fault.LinkFault.TheVariants.{LongData, DataSection, Pointer}
use Rattle.bpf_link.specs.declared.layout.RelocationEntry.{RelocationEntry}
use Rattle.bpf_link.specs.declared.layout.SectionHeader.{SectionHeader}
use Rattle.bpf_link.specs.declared.layout.SymbolEntry.{SymbolEntry}
use Rattle.bpf_link.specs.declared.plan.Plan.{Plan}
use Rattle.bpf_link.specs.Layout.{u64_at}
use Rattle.bpf_link.specs.Objects.{Elf, provided, section_at}
use Rattle.bpf_link.specs.Plans.{after, steps, symbol_place}
use Rattle.bpf_link.specs.Data.{Numbered, is_among, data_number, pointers_of}
use Rattle.bpf_link.specs.Tables.{relocation_at, symbol_at}
use Rattle.bpf_isa.specs.Maps.{most_map_bytes}

-- Bytes, and zeros after them up to a whole number of eight.
abbrev pub filled : ℕ → List ℕ → List ℕ
filled size bytes = take size bytes ++ replicate (size - length bytes) 0

abbrev pub whole_size : ℕ → ℕ
whole_size size = (size + 7) / 8 * 8

-- The bytes of a section of data, SHT_NOBITS of zeros.
abbrev pub bytes_of : Elf → SectionHeader → Result (List ℕ) LinkFault
bytes_of object section =
    provided (nat_le section.size most_map_bytes) LongData
    (if section.kind == 8 then Ok (filled (whole_size section.size) [])
    else provided (nat_le (section.offset + section.size) (length object.bytes)) DataSection
    (Ok (filled (whole_size section.size) (slice_range object.bytes section.offset (section.offset + section.size)))))

-- Where the bytes of a map begin in memory.
abbrev pub map_address : ℕ → ℕ
map_address map = 0x300000000 + map * 0x100000

-- A number in the eight bytes at a place.
abbrev pub with_u64 : List ℕ → ℕ → ℕ → List ℕ
with_u64 bytes at n = take at bytes ++ (little_bytes 8 n ++ drop (at + 8) bytes)

-- The address of a symbol of data, and a number more.
abbrev pub address_of : Numbered → SymbolEntry → ℕ → ℕ
address_of placed symbol more = (map_address (data_number placed symbol.section) + symbol.value + more) % 18446744073709551616

-- An address in data, R_BPF_64_ABS64: that of the symbol, and what stood there.
abbrev pub with_address : Numbered → RelocationEntry → SymbolEntry → LinkFault → List ℕ → Result (List ℕ) LinkFault
with_address placed relocation symbol fault image =
    provided (is_among placed.taken symbol.section) fault
    (Ok (with_u64 image relocation.offset (address_of placed symbol (u64_at image relocation.offset))))

-- Where the name of a relocation's symbol stands in the file, or the file's end.
abbrev pub pointed_place : Plan → RelocationEntry → ℕ
pointed_place plan relocation =
    if nat_lt relocation.symbol (length plan.symbols) then symbol_place plan (symbol_at plan.symbols relocation.symbol) else length plan.object.bytes

abbrev pub with_relocated : Numbered → RelocationEntry → List ℕ → Result (List ℕ) LinkFault
with_relocated placed relocation image =
    let fault = Pointer (pointed_place placed.plan relocation) in
    provided (relocation.kind == 2) fault
    (provided (nat_le (relocation.offset + 8) (length image)) fault
    (provided (nat_lt relocation.symbol (length placed.plan.symbols)) fault
    (with_address placed relocation (symbol_at placed.plan.symbols relocation.symbol) fault image)))

abbrev pub with_pointer : Numbered → List RelocationEntry → ℕ → List ℕ → Result (List ℕ) LinkFault
with_pointer placed relocations i image = with_relocated placed (relocation_at relocations i) image

abbrev pub with_pointers : Numbered → List RelocationEntry → List ℕ → Result (List ℕ) LinkFault
with_pointers placed relocations image = steps (with_pointer placed relocations) image (length relocations)

-- The bytes of a section's map at the start.
abbrev pub image_of : Numbered → ℕ → Result (List ℕ) LinkFault
image_of placed section =
    after (bytes_of placed.plan.object (section_at placed.plan.object section)) (λ bytes.
    after (pointers_of placed.plan section) (λ relocations.
    with_pointers placed relocations bytes))
