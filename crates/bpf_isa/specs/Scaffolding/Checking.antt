-- Scaffolding: no public contract cites this. What the checker keeps of a program, slot by slot, and what it asks of an instruction by itself.
use Rattle.std.specs.Prelude.{◌≡◌, ◌<◌, ◌≤◌, ℕ, ◌+◌, ◌*◌, Bool, true, false, List, Option, Some, None, IfSome, length, unwrap_or, slice_get}
use Rattle.bpf_isa.specs.declared.instruction.Insn.{Insn}
use Rattle.bpf_isa.specs.declared.maps.MapShape.{MapShape}
use Rattle.bpf_isa.specs.declared.fault.PieceFault.{PieceFault}
use Rattle.bpf_isa.specs.declared.fault.PieceFault.TheVariants.{Word, WritesFramePointer, NoTarget, RunsOff, UnknownHelper, NoMap}
use Rattle.bpf_isa.specs.declared.fault.WordFault.TheVariants.{CutOff}
use Rattle.bpf_isa.specs.Insns.{slots_of, FallsThrough, written_of}
use Rattle.bpf_isa.specs.Words.{IsWord}
use Rattle.bpf_isa.specs.WordFaults.{HasWordFault}
use Rattle.bpf_isa.specs.Checker.{AreSlots, is_start, IsStartIn, piece_at, HasNoFault, Lands, HelperExists, MapExists}

-- The flags are the starts.
pub record AreStarts (bytes : List ℕ) (starts : List Bool) : Type 0 where
  pub slots : 8 * length starts ≡ length bytes
  pub flags : (p : ℕ) → p < length starts → slice_get starts p ≡ Some (is_start bytes p)

-- A start among slots whose flags are the starts.
pub record IsStartOf (bytes : List ℕ) (starts : List Bool) (p : ℕ) : Type 0 where
  pub slots : AreSlots bytes
  pub start : IsStartIn bytes p
  pub flags : AreStarts bytes starts

-- The instruction replaces no register, or one of r0 to r9.
abbrev pub SparesTen : Insn → Type 0
SparesTen insn = IfSome (written_of insn) (λ r. r < 10)

-- A fault of the piece at a slot that reads as an instruction and leaves nothing over.
abbrev pub Breaks : List ℕ → List MapShape → ℕ → Insn → PieceFault → Type 0
Breaks bytes maps p insn (Word CutOff) = HasWordFault (piece_at bytes p) CutOff
Breaks bytes maps p insn (Word _) = ⊥
Breaks bytes maps p insn WritesFramePointer = written_of insn ≡ Some 10
Breaks bytes maps p insn NoTarget = Lands bytes p insn → ⊥
Breaks bytes maps p insn RunsOff = FallsThrough insn × (length bytes ≤ 8 * (p + slots_of insn))
Breaks bytes maps p insn UnknownHelper = HelperExists insn → ⊥
Breaks bytes maps p insn NoMap = MapExists maps insn → ⊥

-- An instruction at a slot breaks no rule.
pub record IsSound (bytes : List ℕ) (maps : List MapShape) (p : ℕ) (insn : Insn) : Type 0 where
  pub spares : SparesTen insn
  pub lands : Lands bytes p insn
  pub whole : HasWordFault (piece_at bytes p) CutOff → ⊥
  pub falls : FallsThrough insn → 8 * (p + slots_of insn) < length bytes
  pub helper : HelperExists insn
  pub names : MapExists maps insn

-- The piece at a slot is a word whose instruction breaks no rule.
pub record IsPiece (bytes : List ℕ) (maps : List MapShape) (p : ℕ) (insn : Insn) : Type 0 where
  pub whole : IsWord insn (piece_at bytes p)
  pub sound : IsSound bytes maps p insn

-- What the checker keeps at a slot: the instruction of a start, and nothing at another slot.
abbrev pub IsInsnAt : List ℕ → List MapShape → ℕ → Option Insn → Type 0
IsInsnAt bytes maps p None = is_start bytes p ≡ false
IsInsnAt bytes maps p (Some insn) = (is_start bytes p ≡ true) × IsPiece bytes maps p insn

-- The first n slots were found without fault, and their instructions are kept.
pub record AreInsns (bytes : List ℕ) (maps : List MapShape) (insns : List (Option Insn)) (n : ℕ) : Type 0 where
  pub slots : length insns ≡ n
  pub each : (p : ℕ) → p < n → IsInsnAt bytes maps p (unwrap_or (slice_get insns p) None)
  pub clear : (p : ℕ) → p < n → IsStartIn bytes p → HasNoFault bytes maps p
