-- Which refusals of a command hold at a point, in the order of their numbers: the first is answered.
use Rattle.std.specs.Prelude.{ℕ, Bool, true, false, not, Option, Some, None, List, [], ◌∷◌, ◌++◌, length, is_some, ◌==◌, nat_le, nat_lt}
use Rattle.bpf_isa.specs.Programs.{insn_at}
use Rattle.bpf_steps.specs.Regions.{index_of}
use Rattle.bpf_steps.specs.State.{depth}
use Rattle.bpf_entries.specs.Status.{has_ended}
use Rattle.bpf_machine.specs.declared.edit.Edit.{Edit}
use Rattle.bpf_machine.specs.declared.edit.EditFault.{EditFault}
use Rattle.bpf_machine.specs.declared.edit.EditFault.TheVariants as fault
use Rattle.bpf_machine.specs.Edits.{edit_fault}
use Rattle.bpf_session.specs.Limits.{most_breaks, most_watches}
use Rattle.bpf_session.specs.Points.{Point}
use Rattle.bpf_session.specs.Stops.{has}
use Rattle.bpf_session.specs.Backward.{marks, kept_steps}
use Rattle.bpfdb_script.specs.declared.command.Command.{Command}
use Rattle.bpfdb_script.specs.declared.command.Command.TheVariants as command
use Rattle.bpfdb_script.specs.declared.command.Goal.TheVariants as goal
use Rattle.bpfdb_script.specs.declared.command.Stop.TheVariants as stop
use Rattle.bpfdb_script.specs.declared.command.Target.TheVariants as target
use Rattle.bpfdb_script.specs.declared.command.View.TheVariants as view
use Rattle.bpfdb_script.specs.declared.refusal.Refusal.{Refusal}
use Rattle.bpfdb_script.specs.declared.refusal.Refusal.TheVariants.{MachineEnded, NoKeptStep, FewerCommands, AddressNotPresent, RegisterNotWritable, NoStart, OutermostFrame, TableFull, ThereOrNot, NothingToRedo, NoCell}

-- A refusal where a test holds.
abbrev pub when : Bool → Refusal → List Refusal
when true refusal = refusal ∷ []
when false refusal = []

-- The tests: the run of n bytes at an address is present; an instruction starts at a slot.
abbrev pub present : Point → ℕ → ℕ → Bool
present p a n = is_some (index_of p.state.memory a n)

abbrev pub starts : Point → ℕ → Bool
starts p slot = is_some (insn_at p.state.program slot)

-- An edit's: its fault, if it has one.
abbrev pub refusal_for : EditFault → Refusal
refusal_for fault.AddressNotPresent = AddressNotPresent
refusal_for fault.RegisterNotWritable = RegisterNotWritable
refusal_for fault.NoStart = NoStart
refusal_for fault.NoCell = NoCell

abbrev pub fault_refusals : Option EditFault → List Refusal
fault_refusals None = []
fault_refusals (Some fault) = refusal_for fault ∷ []

abbrev pub edit_refusals : Edit → Point → List Refusal
edit_refusals e p = fault_refusals (edit_fault p.state e)

-- A command's.
abbrev pub refusals_of : Command → Point → List Refusal
refusals_of (command.Forward goal.Finish) p = when (has_ended p.state.status) MachineEnded ++ when (depth p.state == 0) OutermostFrame
refusals_of (command.Forward _) p = when (has_ended p.state.status) MachineEnded
refusals_of (command.Back (target.Commands count)) p = when (nat_lt (marks p) count) FewerCommands
refusals_of (command.Back target.Finish) p = when (kept_steps p == 0) NoKeptStep ++ when (depth p.state == 0) OutermostFrame
refusals_of (command.Back _) p = when (kept_steps p == 0) NoKeptStep
refusals_of (command.Redo count) p = when (length p.ahead == 0) NothingToRedo
refusals_of (command.Edit e) p = edit_refusals e p
refusals_of (command.Add (stop.Breakpoint slot)) p =
    when (not (starts p slot)) NoStart
    ++ when (nat_le most_breaks (length p.breaks)) TableFull
    ++ when (has p.breaks slot) ThereOrNot
refusals_of (command.Add (stop.Watch address)) p =
    when (not (present p address 1)) AddressNotPresent
    ++ when (nat_le most_watches (length p.watches)) TableFull
    ++ when (has p.watches address) ThereOrNot
refusals_of (command.Remove (stop.Breakpoint slot)) p = when (not (has p.breaks slot)) ThereOrNot
refusals_of (command.Remove (stop.Watch address)) p = when (not (has p.watches address)) ThereOrNot
refusals_of (command.Show (view.Bytes address span)) p = when (not (present p address span)) AddressNotPresent
refusals_of (command.Show (view.Instructions slot span)) p = when (not (starts p slot)) NoStart
refusals_of (command.Show (view.LastWrite address)) p = when (not (present p address 1)) AddressNotPresent
refusals_of _ p = []
