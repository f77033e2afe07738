-- The functions of one object that answer what another one calls: calls of the kernel's helpers by their numbers, and symbols that it leaves undefined.
use Rattle.std.specs.Prelude.{ℕ, ◌+◌, ◌/◌, ◌%◌, ◌==◌, nat_lt, nat_le, bytes_eq, Bool, ◌&&◌, List, Option, Some, None, codes, length, slice_range, if◌then◌else◌}
use Rattle.bpf_btf.specs.Maps.{last_below}
use Rattle.bpf_link.specs.Entries.{is_program}
use Rattle.bpf_link.specs.Helpers.{has_prefix, helper_name}
use Rattle.bpf_link.specs.Objects.{below}
use Rattle.bpf_link.specs.Parts.{slots_in}
use Rattle.bpf_link.specs.Plans.{symbol_place}
use Rattle.bpf_link.specs.Sections.{name_at}
use Rattle.bpf_link.specs.Tables.{symbol_at}
use Rattle.bpf_link.specs.declared.layout.SymbolEntry.{SymbolEntry}
use Rattle.bpf_link.specs.declared.plan.Plan.{Plan}

-- The name of a function that answers a helper stands at a place: `bpf_`, and the helper's name in the kernel.
abbrev pub names_helper : List ℕ → ℕ → List ℕ → Bool
names_helper bytes at helper = nat_lt 0 (length helper) && (has_prefix bytes at && name_at bytes (at + 4) helper)

-- A symbol is a function of `.text` that is known outside its object, and has that name.
abbrev pub answers : Plan → List ℕ → SymbolEntry → Bool
answers functions helper symbol =
    is_program functions.parts.code.section symbol && names_helper functions.object.bytes (symbol_place functions symbol) helper

-- The slot of `.text` at which a symbol's function begins, if one does.
abbrev pub slot_of : Plan → Option ℕ → Option ℕ
slot_of functions None = None
slot_of functions (Some i) =
    let value = (symbol_at functions.symbols i).value in
    if (value % 8 == 0) && nat_lt (value / 8) (slots_in functions.parts.code) then Some (value / 8) else None

-- The slot at which the function begins that answers a helper of the kernel, by the helper's number.
abbrev pub answering : Plan → List ℕ → Option ℕ
answering functions helper = last_below (λ i. answers functions helper (symbol_at functions.symbols i)) (length functions.symbols)

abbrev pub callee : Plan → ℕ → Option ℕ
callee functions number = slot_of functions (answering functions (helper_name number))

-- The same of each helper that has a name in the kernel's list, 1 to 211, by its number.
abbrev pub callees : Plan → List (Option ℕ)
callees functions = below (callee functions) 212
