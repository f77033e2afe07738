-- Where the functions of a section begin, by the symbols of the object.
use Rattle.std.specs.Prelude.{ℕ, ◌*◌, ◌==◌, Bool, ◌&&◌, Option, length}
use Rattle.bpf_btf.specs.Maps.{last_below}
use Rattle.bpf_link.specs.Entries.{is_function}
use Rattle.bpf_link.specs.Tables.{symbol_at}
use Rattle.bpf_link.specs.declared.plan.Plan.{Plan}

-- The i-th symbol is a function of a section, and begins in a slot.
abbrev pub begins_in : Plan → ℕ → ℕ → ℕ → Bool
begins_in plan section slot i = is_function section (symbol_at plan.symbols i) && ((symbol_at plan.symbols i).value == 8 * slot)

-- The function that begins in a slot, by the last symbol that says so.
abbrev pub function_at : Plan → ℕ → ℕ → Option ℕ
function_at plan section slot = last_below (begins_in plan section slot) (length plan.symbols)
