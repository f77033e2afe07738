-- What a program is put together from: the section that is asked for, `.text` where that calls it, the symbols and the maps.
use Rattle.std.specs.Prelude.{◌<◌, ℕ, zero, suc, ◌+◌, ◌%◌, ◌-◌, ◌==◌, nat_le, nat_lt, min, Bool, true, false, ◌&&◌, ◌||◌, if◌then◌else◌, List, [], Result, Ok, Err, length, codes, slice_index, slice_range}
use Rattle.bpf_isa.specs.Checker.{most_slots}
use Rattle.bpf_link.specs.declared.fault.LinkFault.{LinkFault}
use Rattle.bpf_link.specs.declared.fault.LinkFault.TheVariants.{NoSection, ManySections, Section, TooLong, RunsOff, SymbolTable, ManyMapSections, RelocationTable}
use Rattle.bpf_link.specs.declared.layout.SectionHeader.{SectionHeader}
use Rattle.bpf_link.specs.declared.layout.RelocationEntry.{RelocationEntry}
use Rattle.bpf_link.specs.declared.layout.SymbolEntry.{SymbolEntry}
use Rattle.bpf_link.specs.declared.sections.Found.{Found}
use Rattle.bpf_link.specs.declared.sections.Found.TheVariants.{Nothing, Only, Several}
use Rattle.bpf_link.specs.declared.sections.Roles.{Roles}
use Rattle.bpf_link.specs.declared.parts.Part.{Part}
use Rattle.bpf_link.specs.declared.plan.Plan.{Plan}
use Rattle.bpf_link.specs.Objects.{Elf, provided, section_at}
use Rattle.bpf_link.specs.Parts.{Sides, slots_in}
use Rattle.bpf_link.specs.Sections.{section_place, is_named, relocations_of, FoundBelow}
use Rattle.bpf_link.specs.Tables.{relocation_at, relocations_in as relocations_of_bytes, symbol_at, symbols_in}

-- What follows a value, unless there is a fault.
abbrev pub after : {A B : Type 0} → Result A LinkFault → (A → Result B LinkFault) → Result B LinkFault
after (Ok value) next = next value
after (Err fault) next = Err fault

-- What the steps below n make of a value, one after the other, or the first fault.
abbrev pub steps : {A : Type 0} → (ℕ → A → Result A LinkFault) → A → ℕ → Result A LinkFault
steps step start zero = Ok start
steps step start (suc n) = after (steps step start n) (step n)

-- The bytes of a section. It lies in the file and holds a whole number of entries of a size.
abbrev pub bytes_of : Elf → SectionHeader → List ℕ
bytes_of object section = slice_range object.bytes section.offset (section.offset + section.size)

abbrev pub entries_of : Elf → ℕ → LinkFault → SectionHeader → Result (List ℕ) LinkFault
entries_of object size fault section =
    provided (nat_le (section.offset + section.size) (length object.bytes)) fault
    (provided (section.size % size == 0) fault
    (Ok (bytes_of object section)))

-- The symbols, of 24 bytes each.
abbrev pub symbols_of : Elf → Found → Result (List SymbolEntry) LinkFault
symbols_of object Nothing = Ok []
symbols_of object (Only i) = after (entries_of object 24 SymbolTable (section_at object i)) (λ bytes. Ok (symbols_in bytes))
symbols_of object Several = Err SymbolTable

-- The section of maps, 0 where there is none.
abbrev pub maps_in : Found → Result ℕ LinkFault
maps_in Nothing = Ok 0
maps_in (Only i) = Ok i
maps_in Several = Err ManyMapSections

-- The section that is asked for. Where no name is given and no other section has code, it is `.text`.
abbrev pub chosen_in : Found → Found → Bool → Result ℕ LinkFault
chosen_in (Only i) text unnamed = Ok i
chosen_in Several text unnamed = Err ManySections
chosen_in Nothing text false = Err NoSection
chosen_in Nothing Nothing true = Err NoSection
chosen_in Nothing (Only i) true = Ok i
chosen_in Nothing Several true = Err ManySections

-- The found section is the one of an index.
abbrev pub is_only : Found → ℕ → Bool
is_only (Only i) index = i == index
is_only _ index = false

-- The relocations of a section, of 16 bytes each: SHT_REL, against the symbols.
abbrev pub relocations_in : Elf → Found → Found → Result (List RelocationEntry) LinkFault
relocations_in object symbols Nothing = Ok []
relocations_in object symbols (Only i) =
    provided ((section_at object i).kind == 9) RelocationTable
    (provided (is_only symbols (section_at object i).link) RelocationTable
    (after (entries_of object 16 RelocationTable (section_at object i)) (λ bytes. Ok (relocations_of_bytes bytes))))
relocations_in object symbols Several = Err RelocationTable

-- A section of the program: its slots and its relocations.
abbrev pub part_in : Elf → Found → ℕ → Result Part LinkFault
part_in object symbols section =
    after (entries_of object 8 Section (section_at object section)) (λ slots.
    after (relocations_in object symbols (relocations_of object section)) (λ relocations.
    Ok (record { section = section; slots = slots; relocations = relocations })))

abbrev pub no_part : Part
no_part = record { section = 0; slots = []; relocations = [] }

-- Where the name of a symbol, and that of a part's section, stand in the file, or the file's end.
abbrev pub symbol_place : Plan → SymbolEntry → ℕ
symbol_place plan symbol = min (plan.names + symbol.name) (length plan.object.bytes)

abbrev pub part_place : Plan → Part → ℕ
part_place plan part =
    if nat_lt part.section (length plan.object.sections) then section_place plan.object (section_at plan.object part.section) else length plan.object.bytes

-- A relocation is of a kind, and against a symbol of a section. That of a call is R_BPF_64_32, 10, and that of a wide load R_BPF_64_64, 1.
abbrev pub is_reference : List SymbolEntry → ℕ → ℕ → RelocationEntry → Bool
is_reference symbols kind section relocation =
    (relocation.kind == kind) && (nat_lt relocation.symbol (length symbols) && ((symbol_at symbols relocation.symbol).section == section))

-- One of the first n relocations is.
abbrev pub refers_below : List SymbolEntry → List RelocationEntry → ℕ → ℕ → ℕ → Bool
refers_below symbols relocations kind section zero = false
refers_below symbols relocations kind section (suc n) =
    is_reference symbols kind section (relocation_at relocations n) || refers_below symbols relocations kind section n

-- `.text`, where it isn't the section that is asked for and that one calls it.
abbrev pub text_in : Elf → Found → List SymbolEntry → Part → Found → Result Part LinkFault
text_in object symbols_section symbols code Nothing = Ok no_part
text_in object symbols_section symbols code (Only i) =
    if i == code.section then Ok no_part
    else (if refers_below symbols code.relocations 10 i (length code.relocations) then part_in object symbols_section i else Ok no_part)
text_in object symbols_section symbols code Several = Err ManySections

-- The last slot of the code begins as an exit or a jump that is always taken, so that none runs on into `.text`.
abbrev pub is_closed : List ℕ → Bool
is_closed slots =
    let last = slice_index slots (length slots - 8) in
    nat_le 8 (length slots) && ((last == 0x95) || ((last == 0x05) || (last == 0x06)))

-- Definitions of maps stand in a section: SHT_PROGBITS, called `maps` (what is called `.maps` holds none), and it lies in the file.
abbrev pub has_definitions : Elf → SectionHeader → Bool
has_definitions object section =
    (section.kind == 1) && (is_named object section (codes "maps") && nat_le (section.offset + section.size) (length object.bytes))

-- The bytes of the section of maps, where they are definitions.
abbrev pub definitions_in : Elf → Found → List ℕ
definitions_in object Nothing = []
definitions_in object (Only i) = if has_definitions object (section_at object i) then bytes_of object (section_at object i) else []
definitions_in object Several = []

-- Where the names of symbols begin: in the section to which the one of the symbols links.
abbrev pub names_in : Elf → Found → ℕ
names_in object (Only i) = let link = (section_at object i).link in if nat_lt link (length object.sections) then (section_at object link).offset else 0
names_in object _ = 0

-- The parts of a program whose code is that of a section.
abbrev pub parts_in : Elf → Roles → List SymbolEntry → ℕ → Result Sides LinkFault
parts_in object roles symbols chosen =
    after (part_in object roles.symbols chosen) (λ code.
    provided (is_closed code.slots) RunsOff
    (after (text_in object roles.symbols symbols code roles.text) (λ text.
    provided (nat_le (slots_in code + slots_in text) most_slots) TooLong
    (Ok (record { code = code; text = text })))))

abbrev pub plan_of : Elf → Roles → Bool → Result Plan LinkFault
plan_of object roles unnamed =
    after (symbols_of object roles.symbols) (λ symbols.
    after (maps_in roles.maps) (λ maps.
    after (chosen_in roles.chosen roles.text unnamed) (λ chosen.
    after (parts_in object roles symbols chosen) (λ parts.
    Ok (record {
      object = object;
      table = roles.symbols;
      symbols = symbols;
      names = names_in object roles.symbols;
      maps = maps;
      definitions = definitions_in object roles.maps;
      parts = parts;
    })))))

-- The sections were looked for in the object.
pub record HasRoles (object : Elf) (roles : Roles) (section : ℕ) : Type 0 where
  pub text : FoundBelow (length object.sections) roles.text
  pub chosen : section < length object.sections
