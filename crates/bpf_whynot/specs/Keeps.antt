-- What kept values as they were: the branches after which a function could write them no more, up to the slot where they are held to be.
use Rattle.std.specs.Prelude.{◌≡◌, ◌⊎◌, ℕ, ℤ, pos, ◌+◌, ◌%◌, ◌^◌, ◌==◌, Bool, false, if◌then◌else◌, List, [], ◌∷◌, ◌++◌, Option, Some, None, length}
use Rattle.std.specs.Option.{option_map_or}
use Rattle.bpf_isa.specs.Programs.{Checked, insn_at, target_of, written_of}
use Rattle.bpf_isa.specs.Sizes.{size_len}
use Rattle.bpf_isa.specs.declared.instruction.Address.{Address}
use Rattle.bpf_isa.specs.declared.instruction.Insn.{Insn}
use Rattle.bpf_isa.specs.declared.instruction.Insn.TheVariants.{Atomic, JumpIf, Store}
use Rattle.bpf_machine.specs.declared.moves.Move.{Move}
use Rattle.bpf_machine.specs.declared.moves.Move.TheVariants as move
use Rattle.bpf_journal.specs.Histories.{Record}
use Rattle.bpf_origin.specs.Places.{depth_for}
use Rattle.bpf_origin.specs.Wanted.{are_hit}
use Rattle.bpf_origin.specs.declared.place.Part.{Part}
use Rattle.bpf_origin.specs.declared.place.Part.TheVariants as part
use Rattle.bpf_origin.specs.declared.place.Place.{Place}
use Rattle.bpf_steps.specs.Atomics.{size_of}
use Rattle.bpf_steps.specs.Numbers.{wrap}
use Rattle.bpf_steps.specs.Platform.{frame_count, frame_pointer}
use Rattle.bpf_steps.specs.State.{State, depth}
use Rattle.bpf_whynot.specs.Sures.{AreWays, Way}
use Rattle.bpf_whynot.specs.declared.branch_aim.Aim.{Aim}
use Rattle.bpf_whynot.specs.declared.keep.Keep.{Keep}

-- What an instruction may write of a function at a depth of calls: the register that it replaces, and bytes of that function's own frame, by r10 and an
-- offset. What it writes by another register isn't looked at, nor what a function writes that it calls.
abbrev pub own_address : ℕ → ℤ → ℕ
own_address d offset = (frame_pointer d + wrap 64 offset) % 2 ^ 64

abbrev pub own_bytes : ℕ → Address → ℕ → List Part
own_bytes d to n = if to.base == 10 then part.Bytes (own_address d to.offset) n ∷ [] else []

abbrev pub may_store : ℕ → Insn → List Part
may_store d (Store size to source) = own_bytes d to (size_len size)
may_store d (Atomic op width to src) = own_bytes d to (size_len (size_of width))
may_store d _ = []

abbrev pub may_replace : ℕ → Option ℕ → List Part
may_replace d None = []
may_replace d (Some r) = part.Register (depth_for d r) r ∷ []

abbrev pub may_write : ℕ → Insn → List Part
may_write d i = may_replace d (written_of i) ++ may_store d i

-- The function at that depth can write one of some places before it comes to a slot, whatever conditions decide: there is a way to another slot, not on
-- from that one, whose instruction may.
abbrev pub writes_one : Checked → List Place → Aim → ℕ → Bool
writes_one program places wall p =
    if p == wall.slot then false else option_map_or (λ i. are_hit (may_write wall.depth i) places) (insn_at program p) false

abbrev pub CanWrite : Checked → List Place → Aim → ℕ → Type 0
CanWrite program places wall p = Way program wall.slot (writes_one program places wall) p

-- A function that was called on the way to that slot holds them to its end, and shares r0 to r5 alone: no own register or frame is of depth 8.
abbrev pub wall_at : Checked → Aim → ℕ → Aim
wall_at program wall d = if d == wall.depth then wall else record { depth = frame_count; slot = length program.insns }

-- Places, and the slot up to which they are held, with the depth of its function.
pub record Held : Type 0 where
  pub places : List Place
  pub wall : Aim

-- By one of the two ways out of a conditional jump it can write one of them. An edit was made where it could.
abbrev pub OneWay : Checked → List Place → Aim → ℕ → Insn → Type 0
OneWay program places wall p i =
    CanWrite program places wall (p + 1) ⊎ ((q : ℕ) × (target_of p i ≡ Some (pos q)) × CanWrite program places wall q)

abbrev pub CouldBy : Checked → List Place → Aim → ℕ → Insn → Type 0
CouldBy program places wall p (JumpIf condition width dst source offset) = OneWay program places wall p (JumpIf condition width dst source offset)
CouldBy program places wall p _ = ⊥

abbrev pub Could : List Place → Aim → State → Move → Type 0
Could places wall x move.Step = (i : Insn) × (insn_at x.program x.pc ≡ Some i) × CouldBy x.program places wall x.pc i
Could places wall x (move.Edit e) = CanWrite x.program places wall x.pc

-- A move kept them from being written: it could have led where one can be, and led where none can.
abbrev pub KeptHere : List Place → Aim → Record → State → Type 0
KeptHere places wall r y = Could places wall r.before r.move × (CanWrite r.before.program places wall y.pc → ⊥)

abbrev pub KeptIt : Held → Record → State → Type 0
KeptIt held r y = KeptHere held.places (wall_at r.before.program held.wall (depth r.before)) r y

-- Those are held that are wanted, while the answer about values has more lines.
abbrev pub held_places : ℕ → List Place → List Place
held_places values wanted = if values == 0 then [] else wanted

abbrev pub held_of : Keep → Held
held_of keep = record { places = keep.places.items; wall = keep.wall }

-- Flags tell from where they can be written: of the function of that slot, and of one that was called on the way there.
abbrev pub AreWriting : Checked → List Place → Aim → List Bool → Type 0
AreWriting program places wall marks = AreWays program wall.slot (writes_one program places wall) marks

pub record TellsKeep (program : Checked) (keep : Keep) : Type 0 where
  pub here : AreWriting program keep.places.items keep.wall keep.here.items
  pub deeper : AreWriting program keep.places.items (record { depth = frame_count; slot = length program.insns }) keep.deeper.items
