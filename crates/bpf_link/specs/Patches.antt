-- What relocations make of the words: calls and map references (RFC 9669, sections 4.3 and 5.4; the relocations R_BPF_64_32 and R_BPF_64_64).
use Rattle.std.specs.Prelude.{◌≡◌, ◌<◌, ℕ, ◌+◌, ◌*◌, ◌/◌, ◌%◌, ◌-◌, ◌==◌, nat_lt, Bool, not, ◌&&◌, ◌||◌, if◌then◌else◌, List, ◌++◌, Result, Ok, Err, Some, None, count_by, take, drop, length, slice_index}
use Rattle.byteorder.specs.Endian.{little_bytes}
use Rattle.bpf_isa.specs.Words.{u32_at}
use Rattle.bpf_link.specs.declared.fault.LinkFault.{LinkFault}
use Rattle.bpf_link.specs.declared.fault.LinkFault.TheVariants.{Place, Symbol, Relocation}
use Rattle.bpf_link.specs.declared.fault.RelocationFault.{RelocationFault}
use Rattle.bpf_link.specs.declared.fault.RelocationFault.TheVariants.{Extern, RelocationKind, CallTarget, NoCall, Data, NoLoad}
use Rattle.bpf_link.specs.declared.layout.RelocationEntry.{RelocationEntry}
use Rattle.bpf_link.specs.declared.layout.SymbolEntry.{SymbolEntry}
use Rattle.bpf_link.specs.declared.parts.Part.{Part}
use Rattle.bpf_link.specs.declared.parts.Side.{Side}
use Rattle.bpf_link.specs.declared.parts.Side.TheVariants.{Code, Text}
use Rattle.bpf_link.specs.declared.plan.Plan.{Plan}
use Rattle.bpf_link.specs.declared.patch.Patch.{Patch}
use Rattle.bpf_link.specs.Objects.{provided}
use Rattle.bpf_link.specs.Parts.{Sides, first_of, part_of, slots_in}
use Rattle.bpf_link.specs.Plans.{after, symbol_place}
use Rattle.bpf_link.specs.Data.{Numbered, is_among, data_number}
use Rattle.bpf_link.specs.Tables.{relocation_at, symbol_at}

-- A relocation names a slot of a part.
pub record HasPlace (part : Part) (relocation : RelocationEntry) : Type 0 where
  pub whole : relocation.offset % 8 ≡ 0
  pub inside : relocation.offset / 8 < slots_in part

-- Why a relocation against a symbol isn't done: its slot, and where the name of the symbol stands in the file.
abbrev pub symbol_fault : Plan → SymbolEntry → ℕ → RelocationFault → LinkFault
symbol_fault plan symbol slot fault = Relocation fault slot (symbol_place plan symbol)

-- The slot of a call: opcode 0x85, and 1 for src, which tells a local call. The functions of the kernel have 2, its helpers 0.
abbrev pub is_call : List ℕ → ℕ → Bool
is_call slots at = (slice_index slots at == 0x85) && (slice_index slots (at + 1) == 0x10)

-- The part of the program in which a symbol's section lies.
abbrev pub side_with : Sides → ℕ → LinkFault → Result Side LinkFault
side_with parts section fault =
    if section == parts.code.section then Ok Code
    else (if section == parts.text.section then Ok Text else Err fault)

-- A call in a slot of the program of what lies at a value in a part, with what stood in imm: the slot of the function is value / 8 + imm + 1,
-- and imm becomes its distance from the slot after the call. Both numbers are of 32 bits in two's complement.
abbrev pub call_to : Sides → Side → ℕ → ℕ → ℕ → LinkFault → Result Patch LinkFault
call_to parts side value imm slot fault =
    provided (value % 8 == 0) fault
    (provided (nat_lt (value / 8) (slots_in (part_of parts side))) fault
    (provided (nat_lt ((value / 8 + imm + 1) % 4294967296) (slots_in (part_of parts side))) fault
    (Ok (record { at = 8 * slot; registers = 0x10; imm = (4294967296 + (first_of parts side + (value / 8 + imm + 1) % 4294967296) - (slot + 1)) % 4294967296; next = None }))))

abbrev pub call_patch : Plan → List ℕ → SymbolEntry → ℕ → ℕ → Result Patch LinkFault
call_patch plan slots symbol at slot =
    let fault = symbol_fault plan symbol slot in
    provided (is_call slots at) (fault NoCall)
    (after (side_with plan.parts symbol.section (fault CallTarget)) (λ side. call_to plan.parts side symbol.value (u32_at slots (at + 4)) slot (fault CallTarget)))

-- A symbol names a map: an object, STT_OBJECT, in the section of maps.
abbrev pub is_map : ℕ → SymbolEntry → Bool
is_map maps symbol = (symbol.kind == 1) && (nat_lt 0 symbol.section && (symbol.section == maps))

-- Two slots hold a wide load of a number of 32 bits: opcodes 0x18 and 0, 0 for src, 0 in the second imm.
abbrev pub is_short_load : List ℕ → ℕ → Bool
is_short_load slots at =
    (slice_index slots at == 0x18) && ((slice_index slots (at + 8) == 0) && ((slice_index slots (at + 1) / 16 == 0) && (u32_at slots (at + 12) == 0)))

-- It is a wide load of the number 0.
abbrev pub is_empty_load : List ℕ → ℕ → Bool
is_empty_load slots at = is_short_load slots at && (u32_at slots (at + 4) == 0)

-- The number of a map: how many maps stand before it in their section.
abbrev pub map_number : List ℕ → ℕ → ℕ
map_number maps value = count_by (λ other. nat_lt other value) maps

-- A wide load of a map by its number (RFC 9669, section 5.4): 5 for src, and the number in imm.
abbrev pub map_patch : Numbered → List ℕ → SymbolEntry → ℕ → ℕ → Result Patch LinkFault
map_patch placed slots symbol at slot =
    provided (is_map placed.plan.maps symbol) (symbol_fault placed.plan symbol slot Data)
    (provided (is_empty_load slots at) (symbol_fault placed.plan symbol slot NoLoad)
    (Ok (record { at = 8 * slot; registers = slice_index slots (at + 1) + 0x50; imm = map_number placed.maps symbol.value; next = Some 0 })))

-- A wide load of an address in the data of a section, which are one of the maps after the object's own (RFC 9669, section 5.4): 6 for src, the map's number in imm,
-- and in the second imm the place in the data: the symbol's value and what stood in imm.
abbrev pub data_patch : Numbered → List ℕ → SymbolEntry → ℕ → ℕ → Result Patch LinkFault
data_patch placed slots symbol at slot =
    provided (is_short_load slots at) (symbol_fault placed.plan symbol slot NoLoad)
    (Ok (record {
      at = 8 * slot;
      registers = slice_index slots (at + 1) + 0x60;
      imm = data_number placed symbol.section;
      next = Some ((symbol.value % 4294967296 + u32_at slots (at + 4)) % 4294967296);
    }))

-- A wide load of a map or of data.
abbrev pub load_patch : Numbered → List ℕ → SymbolEntry → ℕ → ℕ → Result Patch LinkFault
load_patch placed slots symbol at slot =
    if is_among placed.taken symbol.section then data_patch placed slots symbol at slot else map_patch placed slots symbol at slot

-- What a relocation against a symbol makes of the slot that it names. One of a wide load names the first of two slots.
abbrev pub patch_with : Numbered → Side → RelocationEntry → SymbolEntry → Result Patch LinkFault
patch_with placed side relocation symbol =
    let part = part_of placed.plan.parts side in
    let slot = first_of placed.plan.parts side + relocation.offset / 8 in
    let fault = symbol_fault placed.plan symbol slot in
    provided (not (symbol.section == 0)) (fault Extern)
    (if relocation.kind == 10 then call_patch placed.plan part.slots symbol relocation.offset slot
    else (if relocation.kind == 1
    then provided (nat_lt (relocation.offset / 8 + 1) (slots_in part)) (fault NoLoad) (load_patch placed part.slots symbol relocation.offset slot)
    else Err (fault RelocationKind)))

-- How many bytes of the slots a relocation changes: that of a wide load has two slots.
abbrev pub width_of : RelocationEntry → ℕ
width_of relocation = if relocation.kind == 1 then 16 else 8

-- A relocation is the first of its table, or its slot follows those of the one before.
abbrev pub is_next : List RelocationEntry → ℕ → Bool
is_next relocations i = (i == 0) || nat_lt ((relocation_at relocations (i - 1)).offset + width_of (relocation_at relocations (i - 1)) - 8) (relocation_at relocations i).offset

abbrev pub patch_at : Numbered → Side → RelocationEntry → Result Patch LinkFault
patch_at placed side relocation =
    provided (relocation.offset % 8 == 0) Place
    (provided (nat_lt (relocation.offset / 8) (slots_in (part_of placed.plan.parts side))) Place
    (provided (nat_lt relocation.symbol (length placed.plan.symbols)) (Symbol (first_of placed.plan.parts side + relocation.offset / 8))
    (patch_with placed side relocation (symbol_at placed.plan.symbols relocation.symbol))))

-- What a relocation of a part makes of its slot.
abbrev pub patch_of : Numbered → Side → ℕ → Result Patch LinkFault
patch_of placed side i =
    let relocations = (part_of placed.plan.parts side).relocations in
    provided (is_next relocations i) Place (patch_at placed side (relocation_at relocations i))

-- A number in the four bytes at a place.
abbrev pub with_u32 : List ℕ → ℕ → ℕ → List ℕ
with_u32 bytes at n = take at bytes ++ (little_bytes 4 n ++ drop (at + 4) bytes)
