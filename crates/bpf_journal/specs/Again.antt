-- What is kept of a move that was taken back, so that it can be made again: of a step its entry, of an edit the same form with the values
-- that the edit wrote.
use Rattle.std.specs.Prelude.{length}
use Rattle.bpf_entries.specs.declared.entry.Entry.{Entry}
use Rattle.bpf_entries.specs.declared.entry.Entry.TheVariants as entry
use Rattle.bpf_entries.specs.declared.status.Status.TheVariants.{Running}
use Rattle.bpf_entries.specs.Keeping.{Kept}
use Rattle.bpf_machine.specs.declared.edit.Edit.{Edit}
use Rattle.bpf_machine.specs.declared.edit.Edit.TheVariants as edit
use Rattle.bpf_machine.specs.declared.moves.Move.{Move}
use Rattle.bpf_machine.specs.declared.moves.Move.TheVariants as move
use Rattle.bpf_machine.specs.Edits.{replaced_run}
use Rattle.bpf_steps.specs.Entries.{step_entry}
use Rattle.bpf_steps.specs.Platform.{cell_address}
use Rattle.bpf_steps.specs.State.{State, register}
use Rattle.bpf_journal.specs.Histories.{Record}

-- What an edit writes. A new pc makes the machine run.
abbrev pub written : Edit → Entry
written (edit.Register r value) = entry.EditRegister r value
written (edit.Bytes a bytes) = entry.EditBytes a bytes
written (edit.Cell map index bytes) = entry.EditBytes (cell_address map index (length bytes)) bytes
written (edit.Pc slot) = entry.EditPc slot Running

-- What is kept of a move from x, and of a record, with its mark.
abbrev pub again_entry : State → Move → Entry
again_entry x move.Step = step_entry x
again_entry x (move.Edit e) = written e

abbrev pub again_of : Record → Kept
again_of r = (again_entry r.before r.move, r.mark)

-- Scaffolding: the same, made of the move's own entry and the state after the move.
abbrev pub seen_again : State → Entry → Entry
seen_again y (entry.EditRegister r value) = entry.EditRegister r (register y r)
seen_again y (entry.EditBytes a old) = entry.EditBytes a (replaced_run y a old)
seen_again y (entry.EditPc pc status) = entry.EditPc y.pc Running
seen_again y e = e

-- Scaffolding: the move that is made again by what is kept of it.
abbrev pub move_again : Entry → Move
move_again (entry.EditRegister r value) = move.Edit (edit.Register r value)
move_again (entry.EditBytes a bytes) = move.Edit (edit.Bytes a bytes)
move_again (entry.EditPc pc status) = move.Edit (edit.Pc pc)
move_again e = move.Step
