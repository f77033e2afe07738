-- The variable in which a byte of a section of data lies, by the symbols of the object, and its type by BTF.
use Rattle.std.specs.Prelude.{ℕ, zero, suc, ◌-◌, ◌==◌, nat_le, min, Bool, false, not, ◌&&◌, if◌then◌else◌, List, length, Option, Some, None}
use Rattle.bpf_btf.specs.Maps.{variable_at, variable_of}
use Rattle.bpf_btf.specs.Sizes.{size_of}
use Rattle.bpf_btf.specs.Types.{Types, type_of}
use Rattle.bpf_link.specs.Names.{short_at}
use Rattle.bpf_link.specs.Plans.{symbol_place}
use Rattle.bpf_link.specs.Tables.{symbol_at}
use Rattle.bpf_link.specs.declared.layout.SymbolEntry.{SymbolEntry}
use Rattle.bpf_link.specs.declared.plan.Plan.{Plan}
use Rattle.bpf_lines.specs.declared.globals.Global.{Global}

-- A symbol is a variable of the section, STT_OBJECT, 1, with a name, and begins at the byte or before it.
abbrev pub is_begun : ℕ → ℕ → SymbolEntry → Bool
is_begun section offset symbol =
    (symbol.kind == 1 && not (symbol.name == 0)) && (symbol.section == section && nat_le symbol.value offset)

-- The one of those that begins last, of several that begin together the last symbol. The first 65536 symbols count.
abbrev pub later_by : Plan → Option ℕ → ℕ → Option ℕ
later_by plan None i = Some i
later_by plan (Some k) i =
    if nat_le (symbol_at plan.symbols k).value (symbol_at plan.symbols i).value then Some i else Some k

abbrev pub later : Plan → ℕ → ℕ → Option ℕ → ℕ → Option ℕ
later plan section offset found i =
    if is_begun section offset (symbol_at plan.symbols i) then later_by plan found i else found

abbrev pub last_of : Plan → ℕ → ℕ → ℕ → Option ℕ
last_of plan section offset zero = None
last_of plan section offset (suc n) = later plan section offset (last_of plan section offset n) n

abbrev pub last_begun : Plan → ℕ → ℕ → Option ℕ
last_begun plan section offset = last_of plan section offset (min (length plan.symbols) 65536)

-- Its type: that of the variable of its name in the section's list of variables, if there is one.
abbrev pub type_at : Types → ℕ → Option ℕ → Option ℕ
type_at types list None = None
type_at types list (Some i) = Some (type_of types (variable_at types list i)).of

abbrev pub variable_type : Types → Option ℕ → List ℕ → Option ℕ
variable_type types None name = None
variable_type types (Some list) name = type_at types list (variable_of types name list)

-- Where the type has a size, a byte behind the value isn't the variable's.
abbrev pub is_over : Option ℕ → ℕ → Bool
is_over None offset = false
is_over (Some size) offset = nat_le size offset

abbrev pub ends_before : Types → Option ℕ → ℕ → Bool
ends_before types None offset = false
ends_before types (Some id) offset = is_over (size_of types id) offset

unfoldable pub global_of : Plan → Types → Option ℕ → ℕ → SymbolEntry → Option Global
global_of plan types root offset symbol =
    let name = symbol_place plan symbol in
    let of = variable_type types root (short_at plan.object.bytes name) in
    let behind = offset - symbol.value in
    if ends_before types of behind then None else Some (record { name = name; of = of; offset = behind })

abbrev pub global_by : Plan → Types → Option ℕ → ℕ → Option ℕ → Option Global
global_by plan types root offset None = None
global_by plan types root offset (Some k) = global_of plan types root offset (symbol_at plan.symbols k)

abbrev pub global_at : Plan → Types → ℕ → Option ℕ → ℕ → Option Global
global_at plan types section root offset = global_by plan types root offset (last_begun plan section offset)
