-- Scaffolding: whole numbers that are slots.
use Rattle.std.specs.Prelude.{ℤ, pos, negsuc, ◌≤◌}
use Rattle.bpf_isa.specs.Checker.{most_slots}

-- A whole number that can be a slot.
abbrev pub IsSlot : ℤ → Type 0
IsSlot (pos p) = p ≤ most_slots
IsSlot (negsuc n) = ⊥
