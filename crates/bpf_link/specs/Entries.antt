-- The entry of a program: one of the functions of its section.
use Rattle.std.specs.Prelude.{ℕ, ◌+◌, ◌/◌, ◌%◌, ◌==◌, nat_le, nat_lt, ◌&&◌, Bool, if◌then◌else◌, List, Result, Ok, Err, length}
use Rattle.bpf_link.specs.declared.fault.LinkFault.{LinkFault}
use Rattle.bpf_link.specs.declared.fault.LinkFault.TheVariants.{ManyPrograms, NoEntry}
use Rattle.bpf_link.specs.declared.layout.SymbolEntry.{SymbolEntry}
use Rattle.bpf_link.specs.declared.parts.Part.{Part}
use Rattle.bpf_link.specs.declared.plan.Plan.{Plan}
use Rattle.bpf_link.specs.declared.sections.Found.{Found}
use Rattle.bpf_link.specs.declared.sections.Found.TheVariants.{Nothing, Only, Several}
use Rattle.bpf_link.specs.Objects.{provided}
use Rattle.bpf_link.specs.Sections.{found, name_at}
use Rattle.bpf_link.specs.Parts.{slots_in}
use Rattle.bpf_link.specs.Tables.{symbol_at}

-- A symbol is a function of a section: STT_FUNC.
abbrev pub is_function : ℕ → SymbolEntry → Bool
is_function section symbol = (symbol.kind == 2) && (symbol.section == section)

-- The programs of a section are its functions that are known outside the object: STB_GLOBAL or STB_WEAK.
abbrev pub is_program : ℕ → SymbolEntry → Bool
is_program section symbol = is_function section symbol && nat_lt 0 symbol.binding

-- A symbol may be the entry of a plan's code: a function of that name, or, where no name is given, a program.
abbrev pub is_entry : Plan → List ℕ → SymbolEntry → Bool
is_entry plan name symbol =
    if length name == 0 then is_program plan.parts.code.section symbol else (is_function plan.parts.code.section symbol && name_at plan.object.bytes (plan.names + symbol.name) name)

abbrev pub entry_found : Plan → List ℕ → Found
entry_found plan name = found (is_entry plan name) plan.symbols

-- The slot of a part in which a function begins.
abbrev pub slot_in : Part → SymbolEntry → Result ℕ LinkFault
slot_in part symbol =
    provided (symbol.value % 8 == 0) NoEntry (provided (nat_lt (symbol.value / 8) (slots_in part)) NoEntry (Ok (symbol.value / 8)))

-- The slot of the entry. Where no name is given and the section has no program, it is its first one.
abbrev pub entry_at : Plan → Bool → Found → Result ℕ LinkFault
entry_at plan unnamed (Only i) = slot_in plan.parts.code (symbol_at plan.symbols i)
entry_at plan unnamed Several = Err ManyPrograms
entry_at plan unnamed Nothing = if unnamed then Ok 0 else Err NoEntry

-- That of the function of a name, which has at most 255 bytes.
abbrev pub entry_of : Plan → List ℕ → Result ℕ LinkFault
entry_of plan name =
    provided (nat_le (length name) 255) NoEntry (entry_at plan (length name == 0) (entry_found plan name))
