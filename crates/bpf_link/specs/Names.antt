-- The names that a fault of an object tells, as they stand there: each cut at 255 bytes, with a comma between two, and `..` for all from the 17th on.
use Rattle.std.specs.Prelude.{ℕ, zero, suc, ◌+◌, nat_lt, min, Bool, true, false, ◌&&◌, if◌then◌else◌, List, [], ◌∷◌, ◌++◌, Option, Some, None, Result, Ok, Err, length, codes, slice_index, slice_range, take}
use Rattle.bpf_link.specs.declared.fault.LinkFault.{LinkFault}
use Rattle.bpf_link.specs.declared.fault.LinkFault.TheVariants as link
use Rattle.bpf_link.specs.declared.layout.SymbolEntry.{SymbolEntry}
use Rattle.bpf_link.specs.declared.plan.Plan.{Plan}
use Rattle.bpf_link.specs.declared.sources.Source.{Source}
use Rattle.bpf_link.specs.Entries.{is_function, is_program}
use Rattle.bpf_link.specs.Objects.{Elf, opened, section_at}
use Rattle.bpf_link.specs.Links.{planned}
use Rattle.bpf_link.specs.MapTypes.{name_from}
use Rattle.bpf_link.specs.Plans.{names_in, symbol_place, symbols_of}
use Rattle.bpf_link.specs.Sections.{section_place, is_chosen, is_code, roles_in}
use Rattle.bpf_link.specs.Tables.{symbol_at}

-- At most 255 bytes of the name at a place in the file.
abbrev pub cut : List ℕ → List ℕ
cut text = slice_range text 0 (min (length text) 255)

abbrev pub short_at : List ℕ → ℕ → List ℕ
short_at object at = name_from (cut (slice_range object at (length object))) 0

-- Places with one more: the first 17 are kept.
abbrev pub with_place : ℕ → List ℕ → List ℕ
with_place at places = if nat_lt (length places) 17 then places ++ at ∷ [] else places

-- What the steps below n make of an empty list, one after the other.
abbrev pub built : (ℕ → List ℕ → List ℕ) → ℕ → List ℕ
built step zero = []
built step (suc n) = step n (built step n)

-- Where the names of the sections stand that hold code.
abbrev pub with_code : Elf → ℕ → List ℕ → List ℕ
with_code object i places =
    let section = section_at object i in if is_code section then with_place (section_place object section) places else places

abbrev pub code_places : Result Elf LinkFault → List ℕ
code_places (Ok object) = built (with_code object) (length object.sections)
code_places (Err fault) = []

-- Where the names of an object's programs stand: its functions that are known outside it, in the sections with code that aren't called `.text`.
abbrev pub is_program_of : Elf → SymbolEntry → Bool
is_program_of object symbol =
    nat_lt symbol.section (length object.sections)
    && (is_program symbol.section symbol && is_chosen object [] (section_at object symbol.section))

abbrev pub with_program : Elf → ℕ → List SymbolEntry → ℕ → List ℕ → List ℕ
with_program object names symbols i places =
    let symbol = symbol_at symbols i in
    if is_program_of object symbol then with_place (min (names + symbol.name) (length object.bytes)) places else places

abbrev pub places_among : Elf → ℕ → Result (List SymbolEntry) LinkFault → List ℕ
places_among object names (Ok symbols) = built (with_program object names symbols) (length symbols)
places_among object names (Err fault) = []

abbrev pub program_places : Result Elf LinkFault → List ℕ
program_places (Ok object) =
    let symbols = (roles_in object [] object.sections).symbols in places_among object (names_in object symbols) (symbols_of object symbols)
program_places (Err fault) = []

-- Where the names of the functions of a plan's section stand: of all, or of those that are known outside the object.
abbrev pub is_listed : Bool → ℕ → SymbolEntry → Bool
is_listed true section symbol = is_program section symbol
is_listed false section symbol = is_function section symbol

abbrev pub with_function : Plan → Bool → ℕ → List ℕ → List ℕ
with_function plan known i places =
    let symbol = symbol_at plan.symbols i in
    if is_listed known plan.parts.code.section symbol then with_place (symbol_place plan symbol) places else places

abbrev pub function_places : Bool → Result Plan LinkFault → List ℕ
function_places known (Ok plan) = built (with_function plan known) (length plan.symbols)
function_places known (Err fault) = []

-- Where the name of the section stands from which a slot comes.
abbrev pub source_places : Option Source → List ℕ
source_places (Some source) = source.at ∷ []
source_places None = []

-- Where the names stand that a fault tells: that of a map, of a symbol, of a section; or, where none is chosen, those that there are.
abbrev pub fault_places : List ℕ → List ℕ → LinkFault → List ℕ
fault_places object section (link.Map at fault) = at ∷ []
fault_places object section (link.Fields count slot at) = at ∷ []
fault_places object section (link.Relocation fault slot at) = at ∷ []
fault_places object section (link.Context at) = at ∷ []
fault_places object section (link.Undefined slot count places) = take count places
fault_places object section (link.Pointer at) = at ∷ []
fault_places object section (link.Program fault source) = source_places source
fault_places object section (link.Packet fault slot source) = source_places source
fault_places object section (link.Helper slot helper source others) = source_places source
fault_places object section link.NoSection = code_places (opened object)
fault_places object section link.ManySections = program_places (opened object)
fault_places object section link.ManyPrograms = function_places true (planned object section)
fault_places object section link.NoEntry = function_places false (planned object section)
fault_places object section fault = []

-- How many names a text has; what stands for the others is two dots.
abbrev pub most_names : ℕ
most_names = 16

-- The names at places.
abbrev pub parted : ℕ → List ℕ → List ℕ
parted zero text = text
parted (suc k) text = text ++ codes ", "

abbrev pub name_of : List ℕ → List ℕ → ℕ → List ℕ
name_of object places k = if nat_lt k most_names then short_at object (slice_index places k) else codes ".."

abbrev pub with_name : List ℕ → List ℕ → ℕ → List ℕ → List ℕ
with_name object places k text = parted k text ++ name_of object places k

abbrev pub names_at : List ℕ → List ℕ → List ℕ
names_at object places = built (with_name object places) (length places)

-- The names that a fault tells, where a section was asked for.
abbrev pub fault_names : List ℕ → List ℕ → LinkFault → List ℕ
fault_names object section fault = names_at object (fault_places object section fault)
