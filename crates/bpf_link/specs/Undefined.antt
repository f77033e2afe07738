-- The symbols to which code refers and that its object leaves undefined: all of them are told where the first one is refused.
use Rattle.std.specs.Prelude.{ℕ, zero, suc, ◌-◌, ◌==◌, nat_lt, ◌&&◌, Bool, List, [], ◌++◌, if◌then◌else◌, length, replicate}
use Rattle.bpf_link.specs.Data.{is_among}
use Rattle.bpf_link.specs.Names.{with_place}
use Rattle.bpf_link.specs.Plans.{symbol_place}
use Rattle.bpf_link.specs.Tables.{relocation_at, symbol_at}
use Rattle.bpf_link.specs.declared.fault.LinkFault.{LinkFault}
use Rattle.bpf_link.specs.declared.fault.LinkFault.TheVariants.{Relocation, Undefined}
use Rattle.bpf_link.specs.declared.fault.RelocationFault.TheVariants.{Extern}
use Rattle.bpf_link.specs.declared.layout.RelocationEntry.{RelocationEntry}
use Rattle.bpf_link.specs.declared.plan.Plan.{Plan}

-- A relocation is against a symbol that is defined elsewhere.
abbrev pub is_undefined : Plan → RelocationEntry → Bool
is_undefined plan relocation = nat_lt relocation.symbol (length plan.symbols) && ((symbol_at plan.symbols relocation.symbol).section == 0)

-- Places of names with that of its symbol, if it is one, each once: the first 17 are kept.
abbrev pub with_new : ℕ → List ℕ → List ℕ
with_new at places = if is_among places at then places else with_place at places

abbrev pub with_undefined : Plan → RelocationEntry → List ℕ → List ℕ
with_undefined plan relocation places =
    if is_undefined plan relocation then with_new (symbol_place plan (symbol_at plan.symbols relocation.symbol)) places else places

abbrev pub undefined_below : Plan → List RelocationEntry → List ℕ → ℕ → List ℕ
undefined_below plan relocations places zero = places
undefined_below plan relocations places (suc n) = with_undefined plan (relocation_at relocations n) (undefined_below plan relocations places n)

-- Where the names of those stand to which the code of a plan refers, in the order of its slots.
abbrev pub undefined_in : Plan → List ℕ
undefined_in plan =
    let code = undefined_below plan plan.parts.code.relocations [] (length plan.parts.code.relocations) in
    undefined_below plan plan.parts.text.relocations code (length plan.parts.text.relocations)

-- Seventeen places, of which the first ones count.
abbrev pub padded : List ℕ → List ℕ
padded places = places ++ replicate (17 - length places) 0

-- What is told of a fault of a plan's relocations: of a symbol that isn't defined all that aren't.
abbrev pub all_told : Plan → LinkFault → LinkFault
all_told plan (Relocation Extern slot at) = Undefined slot (length (undefined_in plan)) (padded (undefined_in plan))
all_told plan fault = fault
