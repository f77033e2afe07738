-- What is left where the newest move is taken back.
use Rattle.std.specs.Prelude.{◌≡◌, List, [], ◌∷◌, Option, Some, None}
use Rattle.bpf_machine.specs.Moves.{overwritten}
use Rattle.bpf_steps.specs.State.{State}
use Rattle.bpf_entries.specs.Keeping.{Kept}
use Rattle.bpf_entries.specs.Past.{is_of_step}
use Rattle.bpf_journal.specs.Histories.{Record, StandsFor, is_step}
use Rattle.bpf_journal.specs.Replaced.{replaces_bytes}
use Rattle.bpf_journal.specs.declared.taken.Taken.{Taken}

-- What is told of a record whose move was taken back, and of an entry with its mark.
abbrev pub taken_of : Record → Taken
taken_of r = record { is_step = is_step r.move; mark = r.mark; replaced_bytes = replaces_bytes (overwritten r.before r.move) }

abbrev pub taken_by : Kept → Taken
taken_by k = record { is_step = is_of_step k.0; mark = k.1; replaced_bytes = replaces_bytes k.0 }

-- The newest record is looked up: its state comes back, and the history in front of it is left. Without a record nothing changes.
abbrev pub TakesBack : {K : Type 0} → (K → List Kept → Type 0) → Option Taken → List Record → State → K → State → Type 0
TakesBack holds taken [] y new z = (taken ≡ None) × (z ≡ y) × StandsFor holds new z []
TakesBack holds taken (r ∷ h) y new z = (taken ≡ Some (taken_of r)) × (z ≡ r.before) × StandsFor holds new z h
