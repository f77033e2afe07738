-- Why a move is refused, and what came by a move.
use Rattle.std.specs.Prelude.{◌≡◌, true, Some}
use Rattle.bpf_entries.specs.declared.entry.Entry.{Entry}
use Rattle.bpf_machine.specs.declared.moves.Move.{Move}
use Rattle.bpf_machine.specs.declared.moves.Move.TheVariants as move
use Rattle.bpf_machine.specs.Edits.{edit_fault}
use Rattle.bpf_steps.specs.State.{State}
use Rattle.bpf_entries.specs.Status.{has_ended}
use Rattle.bpf_journal.specs.declared.fault.MoveFault.{MoveFault}
use Rattle.bpf_journal.specs.declared.fault.MoveFault.TheVariants as fault

-- Why a move can't be made: a step of a machine that has ended, an edit that is refused.
abbrev pub RefusesMove : State → Move → MoveFault → Type 0
RefusesMove x move.Step fault.Ended = has_ended x.status ≡ true
RefusesMove x (move.Edit e) (fault.Edit f) = edit_fault x e ≡ Some f
RefusesMove x _ _ = ⊥

-- Something led here by a move with this entry.
pub record HasComeBy {M : Type 0} (leads : M → Move → M → Type 0) (entry_by : M → Move → Entry) (y : M) (entry : Entry) : Type 0 where
  pub x : M
  pub m : Move
  pub led : leads x m y
  pub held : entry_by x m ≡ entry
