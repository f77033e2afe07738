-- Each read matters: the tables tell of no place in vain.
use Rattle.std.specs.Prelude.{◌≡◌, ◌≢◌, ◌<◌, ℕ, pos, ◌+◌, false, List, [], flat_map, length, slice_get, Some}
use Rattle.bpf_isa.specs.Programs.{insn_at}
use Rattle.bpf_isa.specs.declared.instruction.Insn.{Insn}
use Rattle.bpf_isa.specs.declared.instruction.Insn.TheVariants as insn
use Rattle.bpf_isa.specs.declared.instruction.Source.{Source}
use Rattle.bpf_isa.specs.declared.instruction.Source.TheVariants.{Immediate, Register}
use Rattle.bpf_machine.specs.declared.moves.Move.TheVariants as move
use Rattle.bpf_steps.specs.Entries.{step_entry}
use Rattle.bpf_machine.specs.Moves.{Leads}
use Rattle.bpf_steps.specs.Next.{target, next}
use Rattle.bpf_steps.specs.Platform.{trace_limit}
use Rattle.bpf_steps.specs.State.{State}
use Rattle.bpf_origin.specs.declared.place.Place.{Place}
use Rattle.bpf_origin.specs.declared.place.Part.{Part}
use Rattle.bpf_origin.specs.Laws.{StandAlike, WroteAlike}
use Rattle.bpf_origin.specs.Places.{IsPlace, places_of, value, same}
use Rattle.bpf_origin.specs.Wanted.{is_in}
use Rattle.bpf_origin.specs.Reads.{reads_by, bases_by, conditions_by}

-- A second operand that hides nothing of register r: another register, or the number 2. (`xor r1, r1` and `mod r1, 1` come to 0 whatever r1
-- is.) r10 is no place.
abbrev pub IsBeside : ℕ → Source → Type 0
IsBeside r (Immediate imm) = imm ≡ pos 2
IsBeside r (Register s) = (s < 10) × (s ≢ r)

-- An instruction whose operands hide nothing: its registers are different ones, a jump goes elsewhere than to the next slot, there is a map
-- to ask, and the trace has room. (A compare-exchange names r0 besides.)
abbrev pub IsPlain : State → Insn → Type 0
IsPlain x (insn.Binary op width dst source) = IsBeside dst source
IsPlain x (insn.JumpIf condition width dst source offset) = (dst < 10) × IsBeside dst source × (target x offset ≢ x.pc + 1)
IsPlain x (insn.CallHelper number) = (x.program.maps ≢ []) × (length x.trace < trace_limit)
IsPlain x (insn.Load size dst from) = from.base < 10
IsPlain x (insn.Store size to source) = (to.base < 10) × IsBeside to.base source
IsPlain x (insn.Atomic op width to src) = (0 < to.base) × (to.base < 10) × (0 < src) × IsBeside to.base (Register src)
IsPlain x _ = Unit {0}

-- The places that a table tells of an instruction.
abbrev pub places : (State → Insn → List Part) → State → Insn → List Place
places table x i = flat_map places_of (table x i)

-- Two running states where x stands, at an instruction. They differ at one place alone: the n-th that one table tells of the instruction,
-- and none that the other one tells.
pub record DifferAt (table other : State → Insn → List Part) (i : Insn) (n : ℕ) (x a b : State) : Type 0 where
  pub first : Leads a move.Step (next a)
  pub second : Leads b move.Step (next b)
  pub here : StandAlike x a
  pub there : StandAlike x b
  pub place : Place
  pub told : slice_get (places table a i) n ≡ Some place
  pub apart : is_in place (places other a i) ≡ false
  pub agree : (p : Place) → IsPlace a p → same place p ≡ false → value a p ≡ value b p

-- Some two of them do not write the same values to the same places; some two go to different points of the program.
pub record Matters (table other : State → Insn → List Part) (i : Insn) (n : ℕ) (x : State) : Type 0 where
  pub a : State
  pub b : State
  pub differ : DifferAt table other i n x a b
  pub seen : WroteAlike (next a) (step_entry a) (next b) (step_entry b) → ⊥

pub record Decides (i : Insn) (n : ℕ) (x : State) : Type 0 where
  pub a : State
  pub b : State
  pub differ : DifferAt conditions_by reads_by i n x a b
  pub seen : StandAlike (next a) (next b) → ⊥

-- Wherever a program stands at a plain instruction, each place that it reads matters for what it writes, apart from the registers of its
-- addresses; so does each of these, apart from what it reads; and each register of its condition decides where it leads.
pub record EachMatters (i : Insn) (x : State) : Type 0 where
  pub reads : (n : ℕ) → n < length (places reads_by x i) → Matters reads_by bases_by i n x
  pub bases : (n : ℕ) → n < length (places bases_by x i) → Matters bases_by reads_by i n x
  pub conditions : (n : ℕ) → n < length (places conditions_by x i) → Decides i n x

abbrev pub EachReadMatters : Type 0
EachReadMatters =
    (x y : State) (i : Insn) → Leads x move.Step y → insn_at x.program x.pc ≡ Some i → IsPlain x i → EachMatters i x
