-- Where a session stands, and what it was opened with.
use Rattle.std.specs.Prelude.{ℕ, List, [], min}
use Rattle.bpf_steps.specs.State.{State}
use Rattle.bpf_journal.specs.Histories.{Record}

-- The kept history, the newest record first; the records that were taken back since the latest new move, the next one to be made again
-- first; the present state; the slots of breakpoints and the addresses of watches, each in order of setting.
pub record Point : Type 0 where
  pub history : List Record
  pub ahead : List Record
  pub state : State
  pub breaks : List ℕ
  pub watches : List ℕ

-- The point without what was taken back.
abbrev pub without_ahead : Point → Point
without_ahead p = record p { ahead = [] }

-- The most steps of a command, and the journal's size in bytes.
pub record Bounds : Type 0 where
  pub limit : ℕ
  pub room : ℕ

-- The same with so many steps at the most.
abbrev pub within : ℕ → Bounds → Bounds
within most b = record b { limit = min b.limit most }

-- A session that was just opened over a machine: no history, nothing to be made again, no breakpoints, no watches.
abbrev pub opening : State → Point
opening x = record { history = []; ahead = []; state = x; breaks = []; watches = [] }
