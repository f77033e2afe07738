-- The faults of a piece that reads as an instruction are the rules that the instruction breaks.
use Rattle.std.proofs.Common.{◌≤◌, ℕ, List, sym, subst, arith}
use Rattle.bpf_isa.specs.declared.instruction.Insn.{Insn}
use Rattle.bpf_isa.specs.declared.maps.MapShape.{MapShape}
use Rattle.bpf_isa.specs.declared.fault.WordFault.{WordFault}
use Rattle.bpf_isa.specs.declared.fault.WordFault.TheVariants.{UnknownInstruction, RegisterAboveTen, UnusedField, CutOff}
use Rattle.bpf_isa.specs.declared.fault.PieceFault.{PieceFault}
use Rattle.bpf_isa.specs.declared.fault.PieceFault.TheVariants.{Word, WritesFramePointer, NoTarget, RunsOff, UnknownHelper, NoMap}
use Rattle.bpf_isa.specs.Faults.{IsLeast, word_fault, piece_fault}
use Rattle.bpf_isa.specs.WordFaults.{IsLeastWordFault}
use Rattle.bpf_isa.specs.Words.{row_of, fields_of, IsClean}
use Rattle.bpf_isa.specs.Scaffolding.Codec.{IsRead}
use Rattle.bpf_isa.specs.Checker.{piece_at, HasFault, HasNoFault}
use Rattle.bpf_isa.specs.Scaffolding.Checking.{Breaks, IsSound}

module _ (bytes : List ℕ) (maps : List MapShape) (p : ℕ) (insn : Insn) (read : IsRead (piece_at bytes p) insn) where
  to_fault : (fault : PieceFault) → Breaks bytes maps p insn fault → HasFault bytes maps p fault
  to_fault (Word UnknownInstruction) b = absurd b
  to_fault (Word RegisterAboveTen) b = absurd b
  to_fault (Word UnusedField) b = absurd b
  to_fault (Word CutOff) b = b
  to_fault WritesFramePointer b = (insn, read.reads, b)
  to_fault NoTarget b = (insn, read.reads, b)
  to_fault RunsOff b = (insn, read.reads, b)
  to_fault UnknownHelper b = (insn, read.reads, b)
  to_fault NoMap b = (insn, read.reads, b)

  from_fault : (fault : PieceFault) → HasFault bytes maps p fault → Breaks bytes maps p insn fault
  from_fault (Word UnknownInstruction) has = has insn read.reads
  from_fault (Word RegisterAboveTen) has = has read.registers
  from_fault (Word UnusedField) has = has.2 (subst (λ i. IsClean (row_of i) (fields_of (piece_at bytes p))) (sym (read.only has.0 has.1)) read.clean)
  from_fault (Word CutOff) has = has
  from_fault WritesFramePointer has = subst (λ i. Breaks bytes maps p i WritesFramePointer) (read.only has.0 has.1) has.2
  from_fault NoTarget has = subst (λ i. Breaks bytes maps p i NoTarget) (read.only has.0 has.1) has.2
  from_fault RunsOff has = subst (λ i. Breaks bytes maps p i RunsOff) (read.only has.0 has.1) has.2
  from_fault UnknownHelper has = subst (λ i. Breaks bytes maps p i UnknownHelper) (read.only has.0 has.1) has.2
  from_fault NoMap has = subst (λ i. Breaks bytes maps p i NoMap) (read.only has.0 has.1) has.2

  pub least_fault : (fault : PieceFault) → IsLeast piece_fault (Breaks bytes maps p insn) fault → IsLeast piece_fault (HasFault bytes maps p) fault
  least_fault fault broken = record { applies = to_fault fault broken.applies; least = λ other has. broken.least other (from_fault other has) }

  unbroken : IsSound bytes maps p insn → (fault : PieceFault) → Breaks bytes maps p insn fault → ⊥
  unbroken sound fault b = grind (arith, sound.spares, sound.falls)

  pub no_fault : IsSound bytes maps p insn → HasNoFault bytes maps p
  no_fault sound = record { none = λ fault has. unbroken sound fault (from_fault fault has) }

-- the faults of bytes that read as nothing come before all others
early_least : (bytes : List ℕ) (maps : List MapShape) (p n : ℕ) → n ≤ 6 → ((other : WordFault) → HasFault bytes maps p (Word other) → n ≤ (word_fault other).0) → (other : PieceFault) → HasFault bytes maps p other → n ≤ (piece_fault other).0
early_least bytes maps p n early least (Word other) has = least other has
early_least bytes maps p n early least WritesFramePointer has = omega (arith, early)
early_least bytes maps p n early least NoTarget has = omega (arith, early)
early_least bytes maps p n early least RunsOff has = omega (arith, early)
early_least bytes maps p n early least UnknownHelper has = omega (arith, early)
early_least bytes maps p n early least NoMap has = omega (arith, early)

pub early_fault : (bytes : List ℕ) (maps : List MapShape) (p : ℕ) (fault : WordFault) → (word_fault fault).0 ≤ 6 → IsLeastWordFault (piece_at bytes p) fault → IsLeast piece_fault (HasFault bytes maps p) (Word fault)
unfolding IsLeastWordFault
early_fault bytes maps p fault early h = record { applies = h.applies; least = early_least bytes maps p (word_fault fault).0 early h.least }
