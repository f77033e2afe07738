-- Scaffolding: how far back a backward command went for what it looks for.
use Rattle.std.specs.Prelude.{◌≡◌, ◌≤◌, ◌<◌, ◌==◌, ℕ, Bool, true, false, List, [], length, min, is_some, unwrap_or, if◌then◌else◌}
use Rattle.bpf_entries.specs.Keeping.{Kept}
use Rattle.bpf_journal.specs.GoingBack.{GoesBackBy}
use Rattle.bpf_journal.specs.Histories.{Record, kept_of}
use Rattle.bpf_journal.specs.Keepers.{Known}
use Rattle.bpf_journal.specs.Tracks.{CourseValue, Track, track_of}
use Rattle.bpf_machine.specs.Moves.{Leads}
use Rattle.bpf_steps.specs.State.{State, depth}
use Rattle.bpf_ring.specs.Ways.{IsPlain}
use Rattle.bpf_ring.specs.declared.backward.Stays.{Stays}
use Rattle.bpf_ring.specs.declared.backward.Stays.TheVariants.{Depth}
use Rattle.bpf_journal.specs.Lookups.{Test, latest}
use Rattle.bpf_session.specs.Backward.{back_by, kept_steps, passes}
use Rattle.bpf_session.specs.Points.{Point}
use Rattle.bpf_session.specs.Sessions.{HasPast, SessionValue, StandsAt, bounds_of, point_of}
use Rattle.bpf_session.specs.declared.session.backward.Found.{Found}
use Rattle.bpfdb_script.specs.declared.command.Target.{Target}
use Rattle.bpfdb_script.specs.declared.command.Target.TheVariants.{Commands, Steps, Next, Continue, Finish}
use Rattle.bpfdb_script.specs.declared.why.Why.{Why}
use Rattle.bpfdb_script.specs.declared.why.Why.TheVariants.{Done, Start, Break, Watch}

-- The session went back to the n-th latest record that passes a test, or to the oldest one.
pub record GoesBackTo {K : Type 0} (holds : K → List Kept → Type 0) (test : Test) (n : ℕ) (h : Track) (old new : SessionValue K) (found : Found) : Type 0 where
  pub moves : found.moves ≡ unwrap_or (latest test n h.history old.moment.state) (length h.history)
  pub is_there : found.is_there ≡ is_some (latest test n h.history old.moment.state)
  pub stands : StandsAt holds new (back_by found.moves (point_of old h))

-- Whether each of the moves that are gone over at once is one that a command looks for; else none of them is.
abbrev pub is_each : Target → Bool
is_each (Commands count) = false
is_each (Steps count) = true
is_each Next = false
is_each Continue = false
is_each Finish = false

-- What the moves have left as it was that a command goes over at once, where nothing is watched or something is, by the depth that it was
-- given at and the present one: one that looks for a depth goes over moves that left the depth as it was, where it isn't the one.
abbrev pub GoAtOnce : Target → Stays → ℕ → ℕ → Stays → Type 0
GoAtOnce (Commands count) watched start now stays = Unit {0}
GoAtOnce (Steps count) watched start now stays = Unit {0}
GoAtOnce Continue watched start now stays = stays ≡ watched
GoAtOnce Next watched start now stays = (stays ≡ Depth) × (start < now)
GoAtOnce Finish watched start now stays = (stays ≡ Depth) × (start ≤ now)

-- The newest n records of a course were taken back at once: a test, which may be told by their entries, where they led and the depth there,
-- passes each of them or none.
pub record GoesOver {K : Type 0} (holds : K → List Kept → Type 0) (test : Test) (passes : Bool) (n : ℕ) (h f : List Record) (y : State) (new : CourseValue K) : Type 0 where
  pub marks : List Bool
  pub stays : Stays
  pub back : GoesBackBy holds marks stays new n h f y
  pub each : 1 ≤ n → (r : Record) (z : State) → IsPlain marks stays (kept_of r) → Leads r.before r.move z → (stays ≡ Depth → depth z ≡ depth y) → test r z ≡ passes

-- A command that was given at a depth goes back over so many moves at once, at most as many as they may be, and over fewer that it looks for
-- than are left to be found. Breakpoints, watches and what the session was opened with stay.
pub record GoesBackOver {K : Type 0} (by : Known K) (target : Target) (start left most n : ℕ) (old new : SessionValue K) : Type 0 where
  pub within : n ≤ most
  pub fewer : is_each target ≡ true → n < left
  pub over : (first : State) (h : Track) → start ≡ depth first → HasPast by.holds old h →
      GoesOver by.holds (passes target (record (point_of old (track_of [])) { state = first })) (is_each target) n h.history h.ahead old.moment.state new.moment
  pub stops : (new.breaks ≡ old.breaks) × (new.watches ≡ old.watches)
  pub refused : by.refusals new.moment.keeper ≡ by.refusals old.moment.keeper
  pub bounds : bounds_of by.size new ≡ bounds_of by.size old

-- How many of the moves that it looks for a command goes back over.
abbrev pub count_in : Target → Point → ℕ
count_in (Commands count) p = count
count_in (Steps count) p = min count (kept_steps p)
count_in Next p = 1
count_in Continue p = 1
count_in Finish p = 1

-- Why it stops there, where it was found or not, and a breakpoint is there or not.
abbrev pub why_found : Target → ℕ → Bool → Bool → Why
why_found (Commands asked) count found broken = Done
why_found (Steps asked) count found broken = if count == asked then Done else Start
why_found Next count found broken = if found then Done else Start
why_found Continue count found broken = if found then (if broken then Break else Watch) else Start
why_found Finish count found broken = if found then Done else Start
