-- What stands in the slots of a program that aren't reached from its entry.
use Rattle.std.specs.Prelude.{ℕ, zero, suc, ◌*◌, ◌/◌, Bool, if◌then◌else◌, List, length}
use Rattle.bpf_link.specs.Images.{with_u64}
use Rattle.bpf_link.specs.Reach.{is_reached}

-- An `exit` stands in a slot that isn't reached: opcode 0x95, and all else zero.
abbrev pub with_exit : List Bool → ℕ → List ℕ → List ℕ
with_exit reach slot words = if is_reached reach slot then words else with_u64 words (8 * slot) 0x95

-- That in the first n slots, and in all.
abbrev pub blanked_below : List Bool → List ℕ → ℕ → List ℕ
blanked_below reach words zero = words
blanked_below reach words (suc n) = with_exit reach n (blanked_below reach words n)

abbrev pub blanked : List Bool → List ℕ → List ℕ
blanked reach words = blanked_below reach words (length words / 8)
