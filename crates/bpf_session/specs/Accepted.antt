-- Scaffolding: which refusal of a command is answered, and a command of which none is.
use Rattle.std.specs.Prelude.{◌≡◌, List, [], ◌∷◌, Option, Some, None}
use Rattle.bpf_entries.specs.Keeping.{Kept}
use Rattle.bpf_journal.specs.Tracks.{Track}
use Rattle.bpf_session.specs.Refused.{refusals_of}
use Rattle.bpf_session.specs.Sessions.{HasPast, SessionValue, point_of}
use Rattle.bpfdb_script.specs.declared.command.Command.{Command}
use Rattle.bpfdb_script.specs.declared.refusal.Refusal.{Refusal}

abbrev pub first : List Refusal → Option Refusal
first [] = None
first (refusal ∷ more) = Some refusal

-- A session refuses no such command, wherever it stands.
abbrev pub Accepts : {K : Type 0} → (K → List Kept → Type 0) → SessionValue K → Command → Type 0
Accepts holds s c = (h : Track) → HasPast holds s h → refusals_of c (point_of s h) ≡ []
