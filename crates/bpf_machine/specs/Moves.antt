-- Moves: a step or an edit, where it leads and what it replaces.
use Rattle.std.specs.Prelude.{◌≡◌, ℕ, Bool, false, List}
use Rattle.bpf_machine.specs.declared.moves.Move.{Move}
use Rattle.bpf_machine.specs.declared.moves.Move.TheVariants as move
use Rattle.bpf_entries.specs.declared.entry.Entry.{Entry}
use Rattle.bpf_entries.specs.Fields.{FitsFields}
use Rattle.bpf_entries.specs.Status.{has_ended}
use Rattle.bpf_entries.specs.Texts.{text}
use Rattle.bpf_steps.specs.State.{State, IsState}
use Rattle.bpf_steps.specs.Next.{next}
use Rattle.bpf_steps.specs.Entries.{step_entry}
use Rattle.bpf_machine.specs.Edits.{IsEditable, edited, edit_entry}

-- Whether a move can be made: a step while the machine runs, an edit that is not refused.
abbrev pub IsMovable : State → Move → Type 0
IsMovable x move.Step = has_ended x.status ≡ false
IsMovable x (move.Edit e) = IsEditable x e

-- The state after a move.
abbrev pub moved : State → Move → State
moved x move.Step = next x
moved x (move.Edit e) = edited x e

-- The entry of a move: the values before it of exactly the places that it replaces.
abbrev pub overwritten : State → Move → Entry
overwritten x move.Step = step_entry x
overwritten x (move.Edit e) = edit_entry x e

-- x leads to y by a move.
pub record Leads (x : State) (m : Move) (y : State) : Type 0 where
  pub before : IsState x
  pub movable : IsMovable x m
  pub after : y ≡ moved x m

-- Some move with this entry leads to y.
pub record HasCome (y : State) (entry : Entry) : Type 0 where
  pub x : State
  pub m : Move
  pub leads : Leads x m y
  pub held : overwritten x m ≡ entry

-- Some move leads to y whose entry, with some mark, has this text, and fits its fields.
pub record HasComeBy (y : State) (bytes : List ℕ) : Type 0 where
  pub entry : Entry
  pub mark : Bool
  pub come : HasCome y entry
  pub fits : FitsFields entry
  pub held : bytes ≡ text entry mark
