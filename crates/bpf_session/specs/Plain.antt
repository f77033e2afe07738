-- Runs that no command stops: one without history, and one that a ring keeps.
use Rattle.std.specs.Prelude.{◌≡◌, ◌≢◌, ℕ, List, [], ◌++◌, Option, Result, Ok, IfOk, IfErr}
use lib.Chars.{codes}
use Rattle.bpf_steps.specs.State.{State, register}
use Rattle.bpf_entries.specs.Status.{has_ended}
use Rattle.bpf_entries.specs.declared.status.Status.{Status}
use Rattle.bpf_entries.specs.declared.status.Status.TheVariants as status
use Rattle.counted_io.specs.Counted.{Tally}
use Rattle.counted_io.specs.Writing.{Writes, hexadecimal}
use Rattle.bpf_ring.specs.Runs.{state_after}
use Rattle.bpf_journal.specs.Histories.{Record, StandsFor}
use Rattle.bpf_journal.specs.Runs.{history_after}
use Rattle.bpf_journal.specs.Timelines.{Moment}
use Rattle.bpf_journal.specs.Tracks.{RingHolds, ring_room}
use Rattle.bpf_ring.specs.declared.keeper.RingKeeper.{RingKeeper}
use Rattle.bpf_session.specs.Forward.{least}
use Rattle.bpf_session.specs.declared.fault.RunFault.{RunFault}
use Rattle.bpf_session.specs.declared.fault.RunFault.TheVariants.{Write}
use Rattle.bpf_session.specs.declared.plain.Ending.{Ending}
use Rattle.bpf_session.specs.declared.plain.Ending.TheVariants.{Exited, Faulted, Limit}

-- The least number of steps after which the machine has ended, the limit where it hasn't by then.
abbrev pub plain_steps : ℕ → State → ℕ
plain_steps limit x = least (λ k. has_ended (state_after k x).status) 0 limit

-- The state after them.
abbrev pub plain_end : ℕ → State → State
plain_end limit x = state_after (plain_steps limit x) x

-- How a run ended, by the status that it left.
abbrev pub ending_of : Status → Ending
ending_of status.Running = Limit
ending_of status.Exited = Exited
ending_of (status.Faulted fault) = Faulted

-- What it writes: the result of a program that has exited.
abbrev pub text_of_ending : Ending → State → List ℕ
text_of_ending Exited x = hexadecimal (register x 0) ++ codes "\n"
text_of_ending Faulted x = []
text_of_ending Limit x = []

-- A run from x to y, which writes what it came to; of a program that has not exited it writes nothing. Its one fault is that of a write: the
-- steps were taken all the same.
pub record RunsPlain {T : Type 0} (contents : T → Option (List ℕ)) (limit : ℕ) (x y : State) (old new : Tally T) (result : Result Ending RunFault) : Type 0 where
  pub next : y ≡ plain_end limit x
  pub ok : IfOk result (λ ending. ending ≡ ending_of y.status)
  pub err : IfErr result (λ fault. fault ≡ Write)
  pub quiet : y.status ≢ status.Exited → (result ≡ Ok (ending_of y.status)) × (new ≡ old)
  pub written : Writes contents old new result (text_of_ending (ending_of y.status) y)

-- A run that takes so many steps, and keeps each in a ring.
pub record RunsKept (limit : ℕ) (old new : Moment RingKeeper) (n : ℕ) : Type 0 where
  pub steps : n ≡ plain_steps limit old.state
  pub state : new.state ≡ plain_end limit old.state
  pub kept : (h : List Record) → StandsFor RingHolds old.keeper old.state h → StandsFor RingHolds new.keeper new.state (history_after (ring_room old.keeper) n old.state h)
  pub room : ring_room new.keeper ≡ ring_room old.keeper
