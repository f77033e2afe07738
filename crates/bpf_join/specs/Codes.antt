-- The code of a joined object: that of the first one, whose calls of helpers that have a function become calls of that, and behind it the functions.
use Rattle.std.specs.Prelude.{ℕ, zero, suc, ◌+◌, ◌-◌, ◌*◌, if◌then◌else◌, List, ◌++◌, Option, Some, None, get_or, slice_set}
use Rattle.bpf_isa.specs.Words.{u32_at}
use Rattle.bpf_link.specs.Links.{unlinked}
use Rattle.bpf_link.specs.Parts.{slots_in}
use Rattle.bpf_link.specs.Patches.{with_u32}
use Rattle.bpf_link.specs.Stubs.{calls_helper}
use Rattle.bpf_link.specs.declared.plan.Plan.{Plan}
use Rattle.bpf_join.specs.Functions.{callees}

-- How many slots the first one's code has: its section, and `.text` where that calls it.
abbrev pub own_slots : Plan → ℕ
own_slots first = slots_in first.parts.code + slots_in first.parts.text

-- The function that a slot calls: the one that answers the helper whose number it calls.
abbrev pub called_in : List (Option ℕ) → List ℕ → ℕ → Option ℕ
called_in functions slots p = if calls_helper slots p then get_or functions (u32_at slots (8 * p + 4)) None else None

-- A slot calls a function that begins `own` slots and more behind the first one (RFC 9669, section 4.3.1): 1 for src, and the distance in imm.
abbrev pub with_call : ℕ → List ℕ → ℕ → Option ℕ → List ℕ
with_call own slots p None = slots
with_call own slots p (Some to) = with_u32 (slice_set slots (8 * p + 1) 0x10) (8 * p + 4) (own + to - (p + 1))

-- The first n slots with their calls.
abbrev pub called_below : List (Option ℕ) → ℕ → List ℕ → ℕ → List ℕ
called_below functions own slots zero = slots
called_below functions own slots (suc n) =
    with_call own (called_below functions own slots n) n (called_in functions (called_below functions own slots n) n)

-- All of them, and the functions behind.
abbrev pub joined_code : Plan → Plan → List ℕ
joined_code first second =
    called_below (callees second) (own_slots first) (unlinked first.parts) (own_slots first) ++ second.parts.code.slots
