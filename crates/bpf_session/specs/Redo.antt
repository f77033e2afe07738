-- `redo` makes moves again that were taken back.
use Rattle.std.specs.Prelude.{◌≡◌, ◌≤◌, ℕ, zero, suc, List, [], ◌∷◌, ◌++◌, Option, Some, None, length, take, drop, reverse, min, nat_le, nat_lt, ◌==◌, if◌then◌else◌}
use Rattle.bpf_entries.specs.Keeping.{Kept}
use Rattle.bpf_machine.specs.Moves.{moved}
use Rattle.bpf_steps.specs.State.{State}
use Rattle.bpf_journal.specs.Courses.{MakesAllAgain}
use Rattle.bpf_journal.specs.Histories.{Record}
use Rattle.bpf_journal.specs.Tracks.{Track}
use Rattle.bpf_session.specs.Points.{Point}
use Rattle.bpf_session.specs.Outcomes.{Outcome, refused, replied}
use Rattle.bpf_session.specs.Sessions.{HasPast, SessionValue}
use Rattle.bpfdb_script.specs.declared.why.Why.{Why}
use Rattle.bpfdb_script.specs.declared.why.Why.TheVariants.{Done, All, Memory}
use Rattle.bpf_session.specs.declared.reply.Reply.TheVariants.{Redone}
use Rattle.bpfdb_script.specs.declared.refusal.Refusal.TheVariants.{OutOfMemory}

-- The state after the first k of records that lead on from x.
abbrev pub state_ahead : ℕ → List Record → State → State
state_ahead zero f x = x
state_ahead (suc k) [] x = x
state_ahead (suc k) (r ∷ f) x = state_ahead k f (moved r.before r.move)

-- The first k records that were taken back go with their marks to the end of the history, and the state becomes the one after them.
abbrev pub on_by : ℕ → Point → Point
on_by k p = record p { history = reverse (take k p.ahead) ++ p.history; ahead = drop k p.ahead; state = state_ahead k p.ahead p.state }

-- How many are made again, and why no more.
abbrev pub again : ℕ → Point → ℕ
again count p = min count (length p.ahead)

abbrev pub why_again : ℕ → Point → Why
why_again count p = if nat_le count (length p.ahead) then Done else All

abbrev pub redone : ℕ → Why → Point → Outcome
redone k why p = replied (Redone k why) (on_by k p)

-- k moves where the keeper refuses none of them; else those before the refused one, which is not made.
abbrev pub cut_again : Option ℕ → ℕ → Why → Point → Outcome
cut_again None k why p = redone k why p
cut_again (Some m) k why p =
    if nat_lt m k then (if m == 0 then refused OutOfMemory p else redone m Memory p) else redone k why p

-- `redo` of so many moves, or of all where there are fewer.
abbrev pub redo : Option ℕ → ℕ → Point → Outcome
redo gap count p = cut_again gap (again count p) (why_again count p) p

-- Scaffolding: so many of the steps that come next are made again, at most as many as they may be, and nothing else changes.
pub record MakesSteps {K : Type 0} (holds : K → List Kept → Type 0) (refusals size : K → ℕ) (most n : ℕ) (old new : SessionValue K) : Type 0 where
  pub within : n ≤ most
  pub only : (new.breaks ≡ old.breaks) × (new.watches ≡ old.watches) × (new.limit ≡ old.limit)
  pub made : (h : Track) → HasPast holds old h → MakesAllAgain holds n h.history h.ahead old.moment.state new.moment
  pub refused : refusals new.moment.keeper ≡ refusals old.moment.keeper
  pub room : size new.moment.keeper ≡ size old.moment.keeper
