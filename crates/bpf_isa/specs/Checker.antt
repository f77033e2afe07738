-- The checker: which bytes are a program. What RFC 9669 leaves to a platform (helpers, maps, r10) is bpfdb's own choice.
use Rattle.std.specs.Prelude.{◌≡◌, ◌≢◌, ◌<◌, ◌≤◌, ℕ, zero, suc, pos, ◌+◌, ◌*◌, ◌/◌, ◌%◌, Bool, true, not, ◌&&◌, ◌==◌, if◌then◌else◌, IsTrue, List, Some, IfSome, IsSome, MatchOption, length, map, take, drop, slice_index, slice_get}
use Rattle.std.specs.List.{concat, filter, range_with_len}
use Rattle.bpf_isa.specs.declared.instruction.Insn.{Insn}
use Rattle.bpf_isa.specs.declared.instruction.Insn.TheVariants.{CallHelper, LoadWide}
use Rattle.bpf_isa.specs.declared.instruction.WideValue.TheVariants.{Map, MapValue}
use Rattle.bpf_isa.specs.declared.maps.MapShape.{MapShape}
use Rattle.bpf_isa.specs.declared.fault.PieceFault.{PieceFault}
use Rattle.bpf_isa.specs.declared.fault.PieceFault.TheVariants.{Word, WritesFramePointer, NoTarget, RunsOff, UnknownHelper, NoMap}
use Rattle.bpf_isa.specs.declared.fault.LoadFault.{LoadFault}
use Rattle.bpf_isa.specs.declared.fault.LoadFault.TheVariants.{Empty, TooLong, Ragged, At, Memory}
use Rattle.bpf_isa.specs.Faults.{IsLeast, piece_fault}
use Rattle.bpf_isa.specs.Helpers.{helper_of}
use Rattle.bpf_isa.specs.WideLoads.{wide_opcode}
use Rattle.bpf_isa.specs.Insns.{slots_of, FallsThrough, target_of, written_of}
use Rattle.bpf_isa.specs.Words.{fields_of, ReadsAs}
use Rattle.bpf_isa.specs.WordFaults.{HasWordFault}

-- The opcode of a slot is that of the wide loads.
abbrev pub is_wide_at : List ℕ → ℕ → Bool
is_wide_at bytes p = slice_index bytes (8 * p) == wide_opcode

-- The cut, from the front: a slot is a start unless the one before it is a start with the wide opcode.
abbrev pub is_start : List ℕ → ℕ → Bool
is_start bytes zero = true
is_start bytes (suc p) = not (is_start bytes p && is_wide_at bytes p)

-- A start of the bytes.
abbrev pub IsStartIn : List ℕ → ℕ → Type 0
IsStartIn bytes p = (8 * p < length bytes) × IsTrue (is_start bytes p)

-- The bytes of the piece at a slot: two slots after the wide opcode, as far as they are there, else one.
abbrev pub piece_at : List ℕ → ℕ → List ℕ
piece_at bytes p = take (if is_wide_at bytes p then 16 else 8) (drop (8 * p) bytes)

-- The pieces at the starts, put together in order, are the bytes: the cut loses none and takes none twice.
abbrev pub PiecesAreTheBytes : Type 0
PiecesAreTheBytes = (bytes : List ℕ) → length bytes % 8 ≡ 0 → let starts = filter (is_start bytes) (range_with_len 0 (length bytes / 8)) in concat (map (piece_at bytes) starts) ≡ bytes

-- What a jump or local call names is a start.
abbrev pub Lands : List ℕ → ℕ → Insn → Type 0
Lands bytes p insn = IfSome (target_of p insn) (λ target. (q : ℕ) × (target ≡ pos q) × IsStartIn bytes q)

-- A call's helper exists.
abbrev pub HelperExists : Insn → Type 0
HelperExists (CallHelper number) = IsSome (helper_of number)
HelperExists _ = Unit {0}

-- A wide load's map exists, and the byte that it names lies in the map's values.
abbrev pub MapExists : List MapShape → Insn → Type 0
MapExists maps (LoadWide dst (Map map)) = map < length maps
MapExists maps (LoadWide dst (MapValue map offset)) = MatchOption (slice_get maps map) ⊥ (λ shape. offset < shape.value_size * shape.entries)
MapExists maps _ = Unit {0}

-- The piece at a slot reads as an instruction that something holds of.
abbrev pub ReadsSome : List ℕ → ℕ → (Insn → Type 0) → Type 0
ReadsSome bytes p Holds = (insn : Insn) × ReadsAs (fields_of (piece_at bytes p)) insn × Holds insn

-- A fault of the piece at a slot, of its bytes or of the instruction that they read as.
abbrev pub HasFault : List ℕ → List MapShape → ℕ → PieceFault → Type 0
HasFault bytes maps p (Word fault) = HasWordFault (piece_at bytes p) fault
HasFault bytes maps p WritesFramePointer = ReadsSome bytes p (λ insn. written_of insn ≡ Some 10)
HasFault bytes maps p NoTarget = ReadsSome bytes p (λ insn. Lands bytes p insn → ⊥)
HasFault bytes maps p RunsOff = ReadsSome bytes p (λ insn. FallsThrough insn × (length bytes ≤ 8 * (p + slots_of insn)))
HasFault bytes maps p UnknownHelper = ReadsSome bytes p (λ insn. HelperExists insn → ⊥)
HasFault bytes maps p NoMap = ReadsSome bytes p (λ insn. MapExists maps insn → ⊥)

-- The piece at a slot has no fault.
pub record HasNoFault (bytes : List ℕ) (maps : List MapShape) (p : ℕ) : Type 0 where
  pub none : (fault : PieceFault) → HasFault bytes maps p fault → ⊥

-- The most slots of a program.
abbrev pub most_slots : ℕ
most_slots = 65_535

-- Whole slots of 8 bytes, one at least.
pub record AreSlots (bytes : List ℕ) : Type 0 where
  pub filled : 0 < length bytes
  pub short : length bytes ≤ 8 * most_slots
  pub whole : length bytes % 8 ≡ 0

-- No piece has a fault.
pub record IsAccepted (bytes : List ℕ) (maps : List MapShape) : Type 0 where
  pub slots : AreSlots bytes
  pub clear : (p : ℕ) → IsStartIn bytes p → HasNoFault bytes maps p

-- The fault of the lowest slot, and of its faults the least.
pub record IsFirstFault (bytes : List ℕ) (maps : List MapShape) (p : ℕ) (fault : PieceFault) : Type 0 where
  pub slots : AreSlots bytes
  pub start : IsStartIn bytes p
  pub least : IsLeast piece_fault (HasFault bytes maps p) fault
  pub before : (q : ℕ) → q < p → IsStartIn bytes q → HasNoFault bytes maps q

-- Why bytes are refused. Out of memory may be answered in place of a piece's fault.
abbrev pub IsRefused : List ℕ → List MapShape → LoadFault → Type 0
IsRefused bytes maps Empty = length bytes ≡ 0
IsRefused bytes maps TooLong = 8 * most_slots < length bytes
IsRefused bytes maps Ragged = (length bytes ≤ 8 * most_slots) × (length bytes % 8 ≢ 0)
IsRefused bytes maps (At slot fault) = IsFirstFault bytes maps slot fault
IsRefused bytes maps Memory = AreSlots bytes
