-- The section in which a function lies, of an object that has several sections with code: bpfdb's own choice, where no section is named.
use Rattle.std.specs.Prelude.{ℕ, ◌+◌, ◌==◌, ◌&&◌, nat_lt, min, Bool, true, false, if◌then◌else◌, List, [], length, Result, Ok, Err}
use Rattle.bpf_link.specs.declared.fault.LinkFault.{LinkFault}
use Rattle.bpf_link.specs.declared.layout.SymbolEntry.{SymbolEntry}
use Rattle.bpf_link.specs.declared.sections.Found.{Found}
use Rattle.bpf_link.specs.declared.sections.Found.TheVariants.{Nothing, Only, Several}
use Rattle.bpf_link.specs.declared.sections.Roles.{Roles}
use Rattle.bpf_link.specs.MapTypes.{name_from}
use Rattle.bpf_link.specs.Objects.{Elf, opened, section_at}
use Rattle.bpf_link.specs.Plans.{names_in, symbols_of}
use Rattle.bpf_link.specs.Sections.{found, is_code, name_at, roles_in, section_place}
use Rattle.bpf_link.specs.Tables.{symbol_at}

-- A symbol is a function (STT_FUNC) of a name, in a section with code. The names of symbols begin at a place in the file.
abbrev pub is_function : Elf → ℕ → List ℕ → SymbolEntry → Bool
is_function object names name symbol =
    (symbol.kind == 2)
    && (nat_lt symbol.section (length object.sections)
    && (is_code (section_at object symbol.section)
    && name_at object.bytes (min (names + symbol.name) (length object.bytes)) name))

-- The name of the section in which a symbol's function lies.
abbrev pub name_of_home : Elf → SymbolEntry → List ℕ
name_of_home object symbol =
    if nat_lt symbol.section (length object.sections) then name_from object.bytes (section_place object (section_at object symbol.section)) else []

-- Of the only function of a name; empty where there is none, or several.
abbrev pub home_of_found : Elf → List SymbolEntry → Found → List ℕ
home_of_found object symbols (Only i) = name_of_home object (symbol_at symbols i)
home_of_found object symbols _ = []

abbrev pub home_among : Elf → ℕ → List ℕ → Result (List SymbolEntry) LinkFault → List ℕ
home_among object names name (Ok symbols) = home_of_found object symbols (found (is_function object names name) symbols)
home_among object names name (Err fault) = []

-- Where sections other than `.text` with code are several.
abbrev pub are_several : Found → Bool
are_several Several = true
are_several _ = false

abbrev pub home_in : Elf → List ℕ → Roles → List ℕ
home_in object name roles =
    if are_several roles.chosen then home_among object (names_in object roles.symbols) name (symbols_of object roles.symbols) else []

abbrev pub home_of_opened : Result Elf LinkFault → List ℕ → List ℕ
home_of_opened (Ok object) name = home_in object name (roles_in object [] object.sections)
home_of_opened (Err fault) name = []

-- The name of the section in which the only function of a name lies, of an object in which no section would be the only one; else empty.
abbrev pub home_of : List ℕ → List ℕ → List ℕ
home_of bytes name = if length name == 0 then [] else home_of_opened (opened bytes) name
