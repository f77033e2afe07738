-- How large the parts of a move are in a program, and that the parts of its entry fit their fields.
use Rattle.bpf_machine.specs.declared.edit.Edit.{Edit}
use Rattle.bpf_machine.specs.declared.edit.Edit.TheVariants as edit
use Rattle.bpf_machine.specs.declared.moves.Move.{Move}
use Rattle.bpf_machine.specs.declared.moves.Move.TheVariants as move
use Rattle.bpf_entries.specs.Fields.{FitsRegister, FitsBytes, FitsFields}
use Rattle.bpf_entries.specs.Status.{FitsNumber}
use Rattle.bpf_steps.specs.State.{State}
use Rattle.bpf_machine.specs.Moves.{Leads, overwritten}

-- What an edit's values are in a program: a register's number and value, an address and 1 to 256 bytes, a map and an index with
-- 1 to 256 bytes, a slot.
abbrev pub FitsEdit : Edit → Type 0
FitsEdit (edit.Register r value) = FitsRegister r × FitsNumber value
FitsEdit (edit.Bytes a bytes) = FitsNumber a × FitsBytes 256 bytes
FitsEdit (edit.Cell map index bytes) = FitsNumber map × FitsNumber index × FitsBytes 256 bytes
FitsEdit (edit.Pc slot) = FitsNumber slot

abbrev pub FitsMove : Move → Type 0
FitsMove move.Step = Unit {0}
FitsMove (move.Edit e) = FitsEdit e

-- The entry of each move fits its fields.
abbrev pub EntriesFit : Type 0
EntriesFit = (x y : State) (m : Move) → Leads x m y → FitsMove m → FitsFields (overwritten x m)
