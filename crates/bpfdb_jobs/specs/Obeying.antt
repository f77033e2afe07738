-- Scaffolding: no public contract cites this. What obeying a command, a line, or the lines of a script leaves of a session over a ring.
use Rattle.std.specs.Prelude.{ℕ, ◌≡◌, List, Option, Some, None, Result, Ok, Err, if◌then◌else◌}
use Rattle.bpf_journal.specs.Tracks.{RingHolds, Track, ring_room}
use Rattle.bpf_ring.specs.declared.keeper.RingKeeper.{RingKeeper}
use Rattle.bpf_session.specs.Meaning.{does}
use Rattle.bpf_session.specs.Output.{is_quit}
use Rattle.bpf_session.specs.Points.{Point}
use Rattle.bpf_session.specs.Sessions.{HasPast, SessionValue, StandsAt, bounds_of, point_of}
use Rattle.bpfdb_script.specs.Commands.{command_of}
use Rattle.bpfdb_script.specs.declared.command.Command.{Command}
use Rattle.bpfdb_script.specs.declared.refusal.Refusal.{Refusal}
use Rattle.bpfdb_jobs.specs.Origins.{Arrival, obeyed, obeyed_by, obeyed_line}

-- Where a session stands that is behind so many moves.
abbrev pub arrived : SessionValue RingKeeper → Track → ℕ → Arrival
arrived s t moves = record { point = point_of s t; moves = moves }

-- A line's meaning, which what is behind it may follow: it goes on from there; it ends there; it is refused.
abbrev pub Meets : SessionValue RingKeeper → SessionValue RingKeeper → Track → ℕ → (Arrival → Result Arrival Refusal) → Result Arrival Refusal
    → Result (Option ℕ) Refusal → Type 0
Meets old new t moves on meaning (Ok (Some after)) =
    (p : Point) × StandsAt RingHolds new p × (meaning ≡ on (record { point = p; moves = after }))
Meets old new t moves on meaning (Ok None) = (new ≡ old) × (meaning ≡ Ok (arrived old t moves))
Meets old new t moves on meaning (Err refusal) = meaning ≡ Err refusal

abbrev pub command_meaning : SessionValue RingKeeper → Track → Command → ℕ → (Arrival → Result Arrival Refusal) → Result Arrival Refusal
command_meaning s t command moves on =
    if is_quit command then Ok (arrived s t moves) else obeyed_by command (does None (bounds_of ring_room s) command (point_of s t)) moves on

abbrev pub ObeysCommand : SessionValue RingKeeper → SessionValue RingKeeper → Track → Command → ℕ → (Arrival → Result Arrival Refusal)
    → Result (Option ℕ) Refusal → Type 0
ObeysCommand old new t command moves on result = HasPast RingHolds old t → Meets old new t moves on (command_meaning old t command moves on) result

abbrev pub ObeysLine : SessionValue RingKeeper → SessionValue RingKeeper → Track → List ℕ → ℕ → (Arrival → Result Arrival Refusal)
    → Result (Option ℕ) Refusal → Type 0
ObeysLine old new t line moves on result = HasPast RingHolds old t
    → Meets old new t moves on (obeyed_line (bounds_of ring_room old) (command_of line) (arrived old t moves) on) result

-- All lines, or those before one that is refused.
abbrev pub Comes : SessionValue RingKeeper → Result Arrival Refusal → Result ℕ Refusal → Type 0
Comes new meaning (Ok moves) = (p : Point) × StandsAt RingHolds new p × (meaning ≡ Ok (record { point = p; moves = moves }))
Comes new meaning (Err refusal) = meaning ≡ Err refusal

abbrev pub ObeysScript : SessionValue RingKeeper → SessionValue RingKeeper → Track → List (List ℕ) → ℕ → Result ℕ Refusal → Type 0
ObeysScript old new t ls moves result = HasPast RingHolds old t → Comes new (obeyed (bounds_of ring_room old) ls (arrived old t moves)) result
