-- A forward command takes the least number of steps, at least one, after which a stop holds.
use Rattle.std.specs.Prelude.{◌+◌, ℕ, zero, suc, Bool, false, List, [], Option, Some, None, is_some, unwrap_or, if◌then◌else◌, ◌==◌, nat_le, nat_lt}
use Rattle.bpf_steps.specs.State.{State, depth}
use Rattle.bpf_entries.specs.Status.{has_ended}
use Rattle.bpf_ring.specs.Runs.{state_after}
use Rattle.bpf_journal.specs.Histories.{Record}
use Rattle.bpf_journal.specs.Runs.{history_after}
use Rattle.bpf_session.specs.Points.{Point, Bounds}
use Rattle.bpf_session.specs.Outcomes.{Outcome, refused, replied}
use Rattle.bpf_session.specs.Stops.{breaks_at, watch_differs}
use Rattle.bpfdb_script.specs.declared.why.Why.{Why}
use Rattle.bpfdb_script.specs.declared.why.Why.TheVariants.{End, Break, Watch, Done, Limit, Memory}
use Rattle.bpf_session.specs.declared.reply.Reply.TheVariants.{Forward}
use Rattle.bpfdb_script.specs.declared.command.Goal.{Goal}
use Rattle.bpfdb_script.specs.declared.command.Goal.TheVariants.{Steps, Next, Continue, Finish}
use Rattle.bpfdb_script.specs.declared.refusal.Refusal.TheVariants.{OutOfMemory}

-- The history after so many steps from a point.
abbrev pub kept : ℕ → ℕ → Point → List Record
kept room k p = history_after room k p.state p.history

-- What was taken back before can't be made again after the first step.
abbrev pub still_ahead : ℕ → List Record → List Record
still_ahead zero ahead = ahead
still_ahead (suc k) ahead = []

-- The point after so many steps.
abbrev pub gone : ℕ → ℕ → Point → Point
gone room k p = record p { history = kept room k p; ahead = still_ahead k p.ahead; state = state_after k p.state }

-- Whether a command that began at this depth has done what it was asked for, after k steps that led to x: `nexti` has come back to the
-- depth or a smaller one, so that a called function runs as one step, and `finish` to a smaller one.
abbrev pub is_done : Goal → ℕ → ℕ → State → Bool
is_done (Steps count) start k x = k == count
is_done Next start k x = nat_le (depth x) start
is_done Continue start k x = false
is_done Finish start k x = nat_lt (depth x) start

-- Why a command that began at a point stops after its k-th step, which led from x to y: the first that holds.
abbrev pub stop_in : ℕ → Goal → Point → ℕ → State → State → Option Why
stop_in limit goal p k x y =
    if has_ended y.status then Some End
    else if breaks_at p y then Some Break
    else if watch_differs p x y then Some Watch
    else if is_done goal (depth p.state) k y then Some Done
    else if k == limit then Some Limit
    else None

-- The same of the k-th step from the point on. (No command stops before its first step.)
abbrev pub stop : ℕ → Goal → Point → ℕ → Option Why
stop limit goal p zero = None
stop limit goal p (suc k) = stop_in limit goal p (suc k) (state_after k p.state) (state_after (suc k) p.state)

-- The least number that passes a test, of the n numbers from k on; k + n where none does.
abbrev pub least : (ℕ → Bool) → ℕ → ℕ → ℕ
least test k zero = k
least test k (suc n) = if test k then k else least test (k + 1) n

-- How many steps are taken, and why no more.
abbrev pub steps : ℕ → Goal → Point → ℕ
steps limit goal p = least (λ k. is_some (stop limit goal p k)) 1 limit

abbrev pub reason : ℕ → Goal → Point → Why
reason limit goal p = unwrap_or (stop limit goal p (steps limit goal p)) Limit

-- k steps, and why no more.
abbrev pub taken : ℕ → ℕ → Why → Point → Outcome
taken room k why p = replied (Forward k why) (gone room k p)

-- k steps where the keeper refuses none of them; else those before the refused one, which is not taken.
abbrev pub cut : Option ℕ → ℕ → ℕ → Why → Point → Outcome
cut None room k why p = taken room k why p
cut (Some m) room k why p =
    if nat_lt m k then (if m == 0 then refused OutOfMemory p else taken room m Memory p) else taken room k why p

-- A forward command from a running state.
abbrev pub forward : Option ℕ → Bounds → Goal → Point → Outcome
forward gap b goal p = cut gap b.room (steps b.limit goal p) (reason b.limit goal p) p
