-- Two objects as one: the code of a section of the first one, with the functions of the second one that it calls.
use Rattle.std.specs.Prelude.{◌≡◌, ◌⊎◌, ℕ, zero, suc, ◌+◌, ◌==◌, nat_lt, nat_le, Bool, true, false, ◌&&◌, ◌||◌, List, ◌++◌, Result, Ok, Err, codes, is_some, length, if◌then◌else◌}
use Rattle.bpf_isa.specs.Checker.{most_slots}
use Rattle.bpf_link.specs.FieldRelocations.{AreLeft, IsFieldsFault}
use Rattle.bpf_link.specs.Images.{with_u64}
use Rattle.bpf_link.specs.Links.{MemoryOr, planned}
use Rattle.bpf_link.specs.MapTypes.{are_in_maps}
use Rattle.bpf_link.specs.Objects.{provided}
use Rattle.bpf_link.specs.Parts.{slots_in}
use Rattle.bpf_link.specs.Plans.{is_closed}
use Rattle.bpf_link.specs.Tables.{symbol_at}
use Rattle.bpf_link.specs.declared.fault.LinkFault.{LinkFault}
use Rattle.bpf_link.specs.declared.fault.LinkFault.TheVariants as link
use Rattle.bpf_link.specs.declared.plan.Plan.{Plan}
use Rattle.bpf_link.specs.declared.sections.Found.{Found}
use Rattle.bpf_link.specs.declared.sections.Found.TheVariants.{Only}
use Rattle.bpf_join.specs.Codes.{joined_code, own_slots}
use Rattle.bpf_join.specs.Functions.{callee}
use Rattle.bpf_join.specs.Moved.{joined_relocations}
use Rattle.bpf_join.specs.Names.{all_names, front_names, symbol_names, whole}
use Rattle.bpf_join.specs.Records.{HasRecords, IsRecordFault, places_of}
use Rattle.bpf_join.specs.Spots.{is_wanted}
use Rattle.bpf_join.specs.Symbols.{more_symbols, own_symbols, with_u16}
use Rattle.bpf_join.specs.Tables.{headers, points_below, records_section}
use Rattle.bpf_join.specs.declared.fault.JoinFault.{JoinFault}
use Rattle.bpf_join.specs.declared.fault.JoinFault.TheVariants.{First, Second}
use Rattle.bpf_join.specs.declared.joined.Joined.{Joined}
use Rattle.bpf_join.specs.declared.places.Places.{Places}

-- The file of a joined object, part by part: both files, the code, the strings, the symbols, the relocations, the records of maps.
abbrev pub own_part : Plan → List ℕ
own_part first = whole first.object.bytes

abbrev pub both_parts : Plan → Plan → List ℕ
both_parts first second = own_part first ++ whole second.object.bytes

abbrev pub with_code : Plan → Plan → List ℕ
with_code first second = both_parts first second ++ joined_code first second

abbrev pub with_names : Plan → Plan → List ℕ
with_names first second = with_code first second ++ whole (all_names first second)

-- The names of the first object's symbols stand behind those of its sections, and those of the second one's behind these.
abbrev pub more_by : Plan → ℕ
more_by first = length (front_names first)

abbrev pub others_by : Plan → ℕ
others_by first = more_by first + length (symbol_names first.object first.table)

abbrev pub with_symbols : Plan → Plan → List ℕ → List ℕ
with_symbols first second places =
    with_names first second ++ own_symbols first second places (records_section first second) (more_by first)
    ++ more_symbols first second (others_by first)

abbrev pub with_relocations : Plan → Plan → List ℕ → List ℕ
with_relocations first second places = with_symbols first second places ++ joined_relocations first second

abbrev pub body : Plan → Plan → List ℕ → List ℕ → List ℕ
body first second places records = with_relocations first second places ++ records

-- Where each part begins.
abbrev pub parts : Plan → Plan → List ℕ → List ℕ → Places
parts first second places records = record {
  second = length (own_part first);
  code = length (both_parts first second);
  strings = length (with_code first second);
  symbols = length (with_names first second);
  relocations = length (with_symbols first second places);
  records = length (with_relocations first second places);
  end = length (body first second places records);
}

-- Behind them stands the table of sections, whose place and length the first object's header says (Elf64_Ehdr: e_shoff, e_shnum).
abbrev pub section_count : Plan → Plan → ℕ
section_count first second = records_section first second + 1

abbrev pub with_table : ℕ → List ℕ → Places → List ℕ
with_table count bytes at = with_u16 (with_u64 bytes 40 at.end) 60 count

abbrev pub joined_bytes : Plan → Plan → ℕ → List ℕ → List ℕ → List ℕ
joined_bytes first second table places records =
    let at = parts first second places records in
    with_table (section_count first second) (body first second places records ++ headers first second table at) at

-- How many of the first n symbols of an object are undefined and have names.
abbrev pub wanted_below : Plan → ℕ → ℕ
wanted_below first zero = 0
wanted_below first (suc n) = wanted_below first n + (if is_wanted first (symbol_at first.symbols n) then 1 else 0)

abbrev pub most_wanted : ℕ
most_wanted = 256

-- The section of the first one's symbols.
abbrev pub table_in : Plan → Found → Result ℕ LinkFault
table_in first (Only i) = provided (nat_lt i (length first.object.sections)) link.SymbolTable (Ok i)
table_in first _ = Err link.SymbolTable

-- `.text` of the first one doesn't run on into the functions.
abbrev pub ends : Plan → Bool
ends first = (length first.parts.text.slots == 0) || is_closed first.parts.text.slots

-- What both have room for, and the section of the first one's symbols; or why they aren't joined.
abbrev pub has_room : Plan → Plan → Bool
has_room first second =
    nat_lt (section_count first second) 0xff00 && (nat_le 64 (length first.object.bytes) && nat_lt first.parts.code.section (length first.object.sections))

abbrev pub ready : Plan → Plan → Result ℕ LinkFault
ready first second =
    provided (has_room first second) link.SectionTable
    (provided (nat_le (own_slots first + slots_in second.parts.code) most_slots) link.TooLong
    (provided (ends first) link.RunsOff
    (provided (nat_lt (length first.symbols + length second.symbols) 4294967296) link.SymbolTable
    (provided (nat_le (wanted_below first (length first.symbols)) most_wanted) link.ManyWanted
    (table_in first first.table)))))

-- What both objects are put together from: the section that is asked for, and the functions of `.text`.
pub record Pair (a b section : List ℕ) : Type 0 where
  pub first : Plan
  pub plans : planned a section ≡ Ok first
  pub second : Plan
  pub functions : planned b (codes ".text") ≡ Ok second

-- Lookups in maps, helper 1, are answered, so that maps have records.
abbrev pub answers_lookups : Plan → Bool
answers_lookups second = is_some (callee second 1)

-- BTF tells what the maps are.
abbrev pub has_types : Plan → List ℕ → Bool
has_types first places = nat_lt 0 (length places) && are_in_maps first

-- The bytes of a joined object.
pub record AreJoined (first second : Plan) (bytes : List ℕ) : Type 0 where
  pub table : ℕ
  pub is_ready : ready first second ≡ Ok table
  pub no_pointers : points_below second.object (length second.object.sections) ≡ false
  pub places : List ℕ
  pub found : places_of first (answers_lookups second) ≡ Ok places
  pub records : List ℕ
  pub told : HasRecords (has_types first places) first places records
  pub whole_is : bytes ≡ joined_bytes first second table places records

-- The joined object of two files, and how many relocations of fields are left undone in its code: those that are counted are the first one's.
pub record IsJoined (a b section : List ℕ) (as_compiled : Bool) (joined : Joined) : Type 0 where
  pub pair : Pair a b section
  pub left : AreLeft a section as_compiled joined.fields
  pub more : ℕ
  pub more_left : AreLeft b (codes ".text") as_compiled more
  pub bytes_are : AreJoined pair.first pair.second joined.bytes.items

-- Why there is none, by the file whose fault it is.
abbrev pub HasPairFault : Plan → Plan → JoinFault → Type 0
HasPairFault first second (First fault) =
    (ready first second ≡ Err fault)
    ⊎ (MemoryOr (places_of first (answers_lookups second)) fault
    ⊎ ((places : List ℕ) × (places_of first (answers_lookups second) ≡ Ok places) × IsRecordFault (has_types first places) first places fault))
HasPairFault first second (Second fault) = (fault ≡ link.Pointers) × (points_below second.object (length second.object.sections) ≡ true)

abbrev pub IsFileFault : List ℕ → List ℕ → List ℕ → Bool → JoinFault → Type 0
IsFileFault a b section as_compiled (First fault) = (planned a section ≡ Err fault) ⊎ IsFieldsFault a section as_compiled fault
IsFileFault a b section as_compiled (Second fault) = (planned b (codes ".text") ≡ Err fault) ⊎ IsFieldsFault b (codes ".text") as_compiled fault

abbrev pub IsJoinFault : List ℕ → List ℕ → List ℕ → Bool → JoinFault → Type 0
IsJoinFault a b section as_compiled fault =
    IsFileFault a b section as_compiled fault ⊎ ((pair : Pair a b section) × HasPairFault pair.first pair.second fault)
