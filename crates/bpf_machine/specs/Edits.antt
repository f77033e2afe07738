-- Edits: what a user changes in a machine by hand, in every status. bpfdb's own choice.
use Rattle.std.specs.Prelude.{◌≡◌, ℕ, Bool, false, ◌&&◌, ◌==◌, if◌then◌else◌, nat_lt, is_some, List, Option, Some, None, length, unwrap_or, slice_get, slice_set}
use Rattle.bpf_isa.specs.Programs.{insn_at}
use Rattle.bpf_isa.specs.declared.maps.MapShape.{MapShape}
use Rattle.bpf_machine.specs.declared.edit.Edit.{Edit}
use Rattle.bpf_machine.specs.declared.edit.Edit.TheVariants as edit
use Rattle.bpf_machine.specs.declared.edit.EditFault.{EditFault}
use Rattle.bpf_machine.specs.declared.edit.EditFault.TheVariants.{AddressNotPresent, RegisterNotWritable, NoStart, NoCell}
use Rattle.bpf_entries.specs.declared.entry.Entry.{Entry}
use Rattle.bpf_entries.specs.declared.entry.Entry.TheVariants.{EditRegister, EditBytes, EditPc}
use Rattle.bpf_entries.specs.declared.status.Status.TheVariants.{Running}
use Rattle.bpf_steps.specs.Platform.{cell_address}
use Rattle.bpf_steps.specs.Regions.{index_of, run_at, put}
use Rattle.bpf_steps.specs.State.{State, register}

-- A fault where a test doesn't hold.
abbrev pub unless : Bool → EditFault → Option EditFault
unless holds fault = if holds then None else Some fault

-- There is a map of this shape, its cells go past this index, and its values have n bytes.
abbrev pub has_cell : Option MapShape → ℕ → ℕ → Bool
has_cell None index n = false
has_cell (Some shape) index n = nat_lt index shape.entries && (n == shape.value_size)

-- Why an edit can't be made: r10 is not writable, a run of bytes lies whole in one region, a cell is there and gets as many bytes
-- as it has, and an instruction starts at the new pc. None where it can.
abbrev pub edit_fault : State → Edit → Option EditFault
edit_fault x (edit.Register r value) = unless (nat_lt r 10) RegisterNotWritable
edit_fault x (edit.Bytes a bytes) = unless (is_some (index_of x.memory a (length bytes))) AddressNotPresent
edit_fault x (edit.Cell map index bytes) = unless (has_cell (slice_get x.program.maps map) index (length bytes)) NoCell
edit_fault x (edit.Pc slot) = unless (is_some (insn_at x.program slot)) NoStart

abbrev pub IsEditable : State → Edit → Type 0
IsEditable x e = edit_fault x e ≡ None

-- Memory with other bytes at an address, and the bytes that they replace.
abbrev pub with_run : State → ℕ → List ℕ → State
with_run x a bytes = record x { memory = put x.memory a (length bytes) bytes }

abbrev pub replaced_run : State → ℕ → List ℕ → List ℕ
replaced_run x a bytes = unwrap_or (run_at x.memory a (length bytes)) bytes

-- The state after an edit. A new pc also makes the machine run.
unfoldable pub edited : State → Edit → State
edited x (edit.Register r value) = record x { registers = slice_set x.registers r value }
edited x (edit.Bytes a bytes) = with_run x a bytes
edited x (edit.Cell map index bytes) = with_run x (cell_address map index (length bytes)) bytes
edited x (edit.Pc slot) = record x { pc = slot; status = Running }

-- Its entry: what it replaces. A cell's entry is that of the bytes at its address.
unfoldable pub edit_entry : State → Edit → Entry
edit_entry x (edit.Register r value) = EditRegister r (register x r)
edit_entry x (edit.Bytes a bytes) = EditBytes a (replaced_run x a bytes)
edit_entry x (edit.Cell map index bytes) =
    EditBytes (cell_address map index (length bytes)) (replaced_run x (cell_address map index (length bytes)) bytes)
edit_entry x (edit.Pc slot) = EditPc x.pc x.status

-- An edit is refused for this fault, and nothing changes.
pub record RefusesEdit (x : State) (e : Edit) (y : State) (fault : EditFault) : Type 0 where
  pub why : edit_fault x e ≡ Some fault
  pub same : y ≡ x
