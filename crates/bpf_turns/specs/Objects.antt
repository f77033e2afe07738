-- The object whose one program calls programs of another one in turn, part by part.
use Rattle.std.specs.Prelude.{ℕ, ◌+◌, ◌-◌, ◌*◌, ◌/◌, ◌%◌, ◌==◌, nat_lt, min, Bool, not, ◌&&◌, ◌||◌, if◌then◌else◌, List, [], ◌++◌, Option, Some, None, codes, get_or, is_some, length, position, slice_set}
use Rattle.bpf_join.specs.Gathered.{gathered}
use Rattle.bpf_join.specs.Moved.{relocation_bytes}
use Rattle.bpf_join.specs.Symbols.{raw_at, with_u16}
use Rattle.bpf_join.specs.Tables.{header_bytes, lies_at}
use Rattle.bpf_link.specs.Images.{with_u64}
use Rattle.bpf_link.specs.Layout.{symbol_entry}
use Rattle.bpf_link.specs.MapTypes.{section_bytes}
use Rattle.bpf_link.specs.Objects.{Elf, no_section, section_at}
use Rattle.bpf_link.specs.Sections.{is_code, is_named}
use Rattle.bpf_link.specs.Tables.{relocation_at, relocations_in}
use Rattle.bpf_link.specs.declared.layout.RelocationEntry.{RelocationEntry}
use Rattle.bpf_link.specs.declared.layout.SectionHeader.{SectionHeader}
use Rattle.bpf_link.specs.declared.layout.SymbolEntry.{SymbolEntry}
use Rattle.bpf_turns.specs.Calls.{calling_words, calls_of, no_call, seat_index}
use Rattle.bpf_turns.specs.Seats.{slots_of}
use Rattle.bpf_turns.specs.declared.calls.Call.{Call}
use Rattle.bpf_turns.specs.declared.parts.Spot.{Spot}
use Rattle.bpf_turns.specs.declared.headers.Lies.{Lies}
use Rattle.bpf_turns.specs.declared.source.Source.{Source}
use Rattle.bpf_turns.specs.declared.seats.Seat.{Seat}

-- All code stands in the section of the first program: the calls, and behind them the sections of the programs.
abbrev pub into : List Call → ℕ
into calls = (get_or calls 0 no_call).section

abbrev pub call_index : List Call → ℕ → Option ℕ
call_index calls section = position (λ call. call.section == section) calls

abbrev pub taken_at : Elf → List Seat → ℕ → List ℕ
taken_at object seats i = if is_some (seat_index seats i) then slots_of object i else []

abbrev pub turned_code : Elf → List Seat → List ℕ
turned_code object seats = calling_words (calls_of object seats) ++ gathered (taken_at object seats) (length object.sections)

-- A place in a section that begins at a slot of the code; what would lie behind 2^64 has no place.
abbrev pub on_by : ℕ → ℕ → ℕ
on_by start value = min (value + 8 * start) 18446744073709551615

-- A symbol of one of these sections lies in the code, and is known in the object alone (STB_LOCAL), so that it isn't taken for the entry. All others stay.
abbrev pub spot_at : List Call → SymbolEntry → Option ℕ → Spot
spot_at calls symbol None = record { section = symbol.section; value = symbol.value; info = symbol.binding % 16 * 16 + symbol.kind % 16 }
spot_at calls symbol (Some k) =
    record { section = into calls; value = on_by (get_or calls k no_call).start symbol.value; info = symbol.kind % 16 }

abbrev pub turned_spot : List Call → SymbolEntry → Spot
turned_spot calls symbol = spot_at calls symbol (call_index calls symbol.section)

-- Its bytes (Elf64_Sym: st_name, st_info, st_other, st_shndx, st_value, st_size).
abbrev pub symbol_bytes : List ℕ → Spot → List ℕ
symbol_bytes raw spot = with_u64 (with_u16 (slice_set raw 4 spot.info) 6 spot.section) 8 spot.value

abbrev pub turned_symbol : List Call → List ℕ → List ℕ
turned_symbol calls raw = symbol_bytes raw (turned_spot calls (symbol_entry raw 0))

abbrev pub turned_symbols : List Call → List ℕ → List ℕ
turned_symbols calls table = gathered (λ i. turned_symbol calls (raw_at table i)) (length table / 24)

abbrev pub table_of : Source → List ℕ
table_of source = slots_of source.plan.object source.table

-- What stands at a place in one of these sections stands where its slot is now; what lies outside of the section has no place. (A relocation there is refused
-- as one at no slot.)
abbrev pub turned_place : Elf → Call → ℕ → ℕ
turned_place object call offset =
    if nat_lt offset (length (slots_of object call.section)) then on_by call.start offset else 18446744073709551615

abbrev pub turned_relocation : Elf → Call → RelocationEntry → List ℕ
turned_relocation object call it = relocation_bytes (turned_place object call it.offset) it.kind it.symbol

abbrev pub relocations_by : Elf → Call → List RelocationEntry → List ℕ
relocations_by object call entries = gathered (λ j. turned_relocation object call (relocation_at entries j)) (length entries)

-- Those of a section of relocations, SHT_REL against the symbols, of one of these sections.
abbrev pub relocates : Source → SectionHeader → Bool
relocates source it = (it.kind == 9) && (it.link == source.table)

abbrev pub relocations_for : Elf → List Call → SectionHeader → Option ℕ → List ℕ
relocations_for object calls it None = []
relocations_for object calls it (Some k) = relocations_by object (get_or calls k no_call) (relocations_in (section_bytes object it))

abbrev pub relocations_at : Source → List Call → ℕ → List ℕ
relocations_at source calls i =
    let it = section_at source.plan.object i in
    if relocates source it then relocations_for source.plan.object calls it (call_index calls it.info) else []

abbrev pub turned_relocations : Source → List Call → List ℕ
turned_relocations source calls = gathered (relocations_at source calls) (length source.plan.object.sections)

-- The file: that of the object, and behind it the code, the symbols, the relocations and what `.BTF.ext` tells of these, and then the table of sections.
abbrev pub with_turned_code : Source → List Seat → List ℕ
with_turned_code source seats = source.plan.object.bytes ++ turned_code source.plan.object seats

abbrev pub with_turned_symbols : Source → List Seat → List ℕ
with_turned_symbols source seats =
    with_turned_code source seats ++ turned_symbols (calls_of source.plan.object seats) (table_of source)

abbrev pub with_turned_relocations : Source → List Seat → List ℕ
with_turned_relocations source seats =
    with_turned_symbols source seats ++ turned_relocations source (calls_of source.plan.object seats)

abbrev pub turned_body : Source → List Seat → List ℕ → List ℕ
turned_body source seats ext = with_turned_relocations source seats ++ ext

abbrev pub lies : Source → List Seat → List ℕ → Lies
lies source seats ext = record {
  code = length source.plan.object.bytes;
  symbols = length (with_turned_code source seats);
  relocations = length (with_turned_symbols source seats);
  ext = length (with_turned_relocations source seats);
  end = length (turned_body source seats ext);
}

-- `.BTF.ext` tells places of instructions; what has relocations of it says no more than its numbers do.
abbrev pub is_ext : Elf → SectionHeader → Bool
is_ext object it = is_named object it (codes ".BTF.ext")

abbrev pub relocates_ext : Elf → SectionHeader → Bool
relocates_ext object it =
    ((it.kind == 9) || (it.kind == 4)) && (nat_lt it.info (length object.sections) && is_ext object (section_at object it.info))

-- Gone are the sections of code, but for `.text` where none of its programs is called; the relocations of those that are called; and those of `.BTF.ext`.
abbrev pub is_gone : Source → List Call → ℕ → SectionHeader → Bool
is_gone source calls i it =
    is_some (call_index calls i)
    || ((is_code it && not (is_named source.plan.object it (codes ".text")))
    || ((relocates source it && is_some (call_index calls it.info)) || relocates_ext source.plan.object it))

-- What else has relocations of these sections has those of the one section, and is refused with that.
abbrev pub refers : List Call → SectionHeader → Bool
refers calls it = ((it.kind == 9) || (it.kind == 4)) && is_some (call_index calls it.info)

abbrev pub kept_header : List Call → SectionHeader → SectionHeader
kept_header calls it = if refers calls it then record it { info = into calls } else it

abbrev pub turned_header : Source → List Call → Lies → ℕ → SectionHeader
turned_header source calls at i =
    let it = section_at source.plan.object i in
    if i == into calls then lies_at it at.code at.symbols
    else (if i == source.table then lies_at it at.symbols at.relocations
    else (if is_ext source.plan.object it then lies_at it at.ext at.end
    else (if is_gone source calls i it then no_section else kept_header calls it)))

abbrev pub last_header : Source → List Call → Lies → SectionHeader
last_header source calls at = record {
  name = 0;
  kind = 9;
  flags = 0;
  offset = at.relocations;
  size = at.ext - at.relocations;
  link = source.table;
  info = into calls;
}

abbrev pub turned_headers : Source → List Call → Lies → List ℕ
turned_headers source calls at =
    gathered (λ i. header_bytes (turned_header source calls at i)) (length source.plan.object.sections)
    ++ header_bytes (last_header source calls at)

-- The file's header says where that table stands and how many sections it has (Elf64_Ehdr: e_shoff, e_shnum).
abbrev pub tabled : Source → List Call → List ℕ → Lies → List ℕ
tabled source calls body at =
    with_u16 (with_u64 (body ++ turned_headers source calls at) 40 at.end) 60 (length source.plan.object.sections + 1)

abbrev pub turned_bytes : Source → List Seat → List ℕ → List ℕ
turned_bytes source seats ext =
    tabled source (calls_of source.plan.object seats) (turned_body source seats ext) (lies source seats ext)
