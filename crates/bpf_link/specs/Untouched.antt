-- What linking leaves as it is: each slot of a section that no relocation, no stub and no setup names.
use Rattle.std.specs.Prelude.{◌≡◌, ◌<◌, ℕ, ◌+◌, ◌*◌, ◌==◌, ◌&&◌, Bool, true, if◌then◌else◌, List, None, length, slice_index}
use Rattle.bpf_link.specs.declared.linker.Linked.{Linked}
use Rattle.bpf_link.specs.declared.plan.Plan.{Plan}
use Rattle.bpf_link.specs.declared.parts.Side.{Side}
use Rattle.bpf_link.specs.declared.stubs.Stub.{Stub}
use Rattle.bpf_link.specs.Begun.{counts}
use Rattle.bpf_link.specs.Laid.{IsPlain}
use Rattle.bpf_link.specs.Parts.{first_of, part_of, slots_in}
use Rattle.bpf_link.specs.Programs.{IsLinked}
use Rattle.bpf_link.specs.Reach.{is_reached}
use Rattle.bpf_link.specs.Stubs.{answer_in}

-- How many slots stand before the code: the jump to the setup, or to an entry that isn't the first slot.
abbrev pub lead : List ℕ → ℕ → ℕ
lead stores entry = if (length stores == 0) && (entry == 0) then 0 else 1

-- The slot of the program that a slot of a part is is reached, no relocation that counts names it, and it calls no helper that has a stub.
pub record IsLeft (plan : Plan) (reach : List Bool) (stubs : List Stub) (side : Side) (p : ℕ) : Type 0 where
  pub inside : p < slots_in (part_of plan.parts side)
  pub reached : is_reached reach (first_of plan.parts side + p) ≡ true
  pub plain : IsPlain (part_of plan.parts side) p
  pub unanswered : answer_in stubs (part_of plan.parts side).slots p ≡ None

-- The slot of a program's words that a slot of one of its parts is.
abbrev pub slot_of : (object name entry : List ℕ) (stubs : List Stub) (program : Linked) → IsLinked object name entry stubs program → Side → ℕ → ℕ
slot_of object name entry stubs program linked side p =
    lead linked.made.laid.stores linked.begun.slot + (first_of (counts linked.begun).parts side + p)

-- Each slot that is left has in the words of a linked program the bytes that it has in its section.
abbrev pub OtherSlotsStay : Type 0
OtherSlotsStay =
    (object name entry : List ℕ) (stubs : List Stub) (program : Linked) (linked : IsLinked object name entry stubs program) (side : Side) (p k : ℕ)
    → IsLeft (counts linked.begun) linked.begun.reach stubs side p → k < 8
    → slice_index program.words.items (8 * slot_of object name entry stubs program linked side p + k)
    ≡ slice_index (part_of (counts linked.begun).parts side).slots (8 * p + k)
