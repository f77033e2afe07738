-- The sections that the code of a program comes from: the one that is asked for, and `.text` behind it.
use Rattle.std.specs.Prelude.{◌≡◌, ◌≤◌, ℕ, ◌+◌, ◌*◌, ◌/◌, length}
use Rattle.bpf_isa.specs.Checker.{most_slots}
use Rattle.bpf_link.specs.declared.parts.Part.{Part}
use Rattle.bpf_link.specs.declared.parts.Side.{Side}
use Rattle.bpf_link.specs.declared.parts.Side.TheVariants.{Code, Text}

-- Both of them.
pub record Sides : Type 0 where
  pub code : Part
  pub text : Part

abbrev pub part_of : Sides → Side → Part
part_of sides Code = sides.code
part_of sides Text = sides.text

-- How many slots a part has, of 8 bytes each, and which slot of the program its first one is.
abbrev pub slots_in : Part → ℕ
slots_in part = length part.slots / 8

abbrev pub first_of : Sides → Side → ℕ
first_of sides Code = 0
first_of sides Text = slots_in sides.code

-- Each holds whole slots, and they are no more than a program may have.
pub record AreParts (sides : Sides) : Type 0 where
  pub code : length sides.code.slots ≡ 8 * slots_in sides.code
  pub text : length sides.text.slots ≡ 8 * slots_in sides.text
  pub short : slots_in sides.code + slots_in sides.text ≤ most_slots
