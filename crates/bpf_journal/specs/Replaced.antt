-- The bytes of memory that a move replaced, as its entry tells them, so that what a byte was is read off the kept entries, and no state
-- is needed for it.
use Rattle.std.specs.Prelude.{◌≡◌, ℕ, Bool, is_some}
use Rattle.bpf_steps.specs.ByAddress.{byte}
use Rattle.bpf_entries.specs.declared.entry.Entry.{Entry}
pub use Rattle.bpf_entries.specs.Before.{byte_in, byte_before, depth_by, depth_before}
use Rattle.bpf_entries.specs.Past.{replaced}
use Rattle.bpf_machine.specs.declared.moves.Move.{Move}
use Rattle.bpf_machine.specs.Moves.{Leads, overwritten}
use Rattle.bpf_steps.specs.State.{State, depth}

-- Whether a move replaced a run.
abbrev pub replaces_bytes : Entry → Bool
replaces_bytes e = is_some (replaced 0 e)

-- An entry tells each byte before its move, and the depth.
pub record TellsBefore (x y : State) (e : Entry) : Type 0 where
  pub depths : depth x ≡ depth_before (depth y) e
  pub bytes : (a : ℕ) → byte x a ≡ byte_before (depth y) e a (byte y a)

abbrev pub EntriesTellBefore : Type 0
EntriesTellBefore = (x y : State) (m : Move) → Leads x m y → TellsBefore x y (overwritten x m)
