-- Where the slots of a program come from.
use Rattle.std.specs.Prelude.{ℕ, ◌+◌, ◌-◌, ◌*◌, ◌==◌, nat_lt, if◌then◌else◌, List, Option, Some, None, length}
use Rattle.bpf_link.specs.declared.plan.Plan.{Plan}
use Rattle.bpf_link.specs.declared.sources.Source.{Source}
use Rattle.bpf_link.specs.Parts.{slots_in}
use Rattle.bpf_link.specs.Plans.{part_place}

-- A slot of the code: one of the section, or of `.text` behind it.
abbrev pub source_at : Plan → ℕ → Option Source
source_at plan slot =
    if nat_lt slot (slots_in plan.parts.code) then Some (record { slot = slot; at = part_place plan plan.parts.code })
    else (if nat_lt (slot - slots_in plan.parts.code) (slots_in plan.parts.text)
    then Some (record { slot = slot - slots_in plan.parts.code; at = part_place plan plan.parts.text }) else None)

-- A slot of the program's words. Where these are more than the code, slot 0 is a jump before it, and what is behind it is the setup.
abbrev pub source_of : Plan → List ℕ → ℕ → Option Source
source_of plan words slot =
    if length words == 8 * (slots_in plan.parts.code + slots_in plan.parts.text) then source_at plan slot
    else (if slot == 0 then None else source_at plan (slot - 1))
