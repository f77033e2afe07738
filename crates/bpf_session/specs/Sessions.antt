-- A session, as contracts see it.
use Rattle.std.specs.Prelude.{◌≡◌, ℕ, List, [], ◌∷◌, Option, Some, None, Result, Ok, Err, IfOk}
use Rattle.bpf_journal.specs.Counts.{one_more}
use Rattle.bpf_entries.specs.Keeping.{Kept}
use Rattle.bpf_journal.specs.Tracks.{CourseValue, Follows, Track}
use Rattle.bpf_session.specs.Points.{Point, Bounds}
use Rattle.bpf_session.specs.Outcomes.{Outcome}
use Rattle.bpf_session.specs.Replies.{IsThere}
use Rattle.bpf_session.specs.declared.reply.Reply.{Reply}
use Rattle.bpf_session.specs.declared.reply.Reply.TheVariants.{Forward, Redone}
use Rattle.bpfdb_script.specs.declared.refusal.Refusal.{Refusal}
use Rattle.bpfdb_script.specs.declared.refusal.Refusal.TheVariants.{OutOfMemory}
use Rattle.bpfdb_script.specs.declared.why.Why.TheVariants.{Memory}

-- The present state with the keeper of the moves that led to it and those that were taken back, the breakpoints and the watches in order
-- of setting, and the limit of steps of a command.
pub record SessionValue (K : Type 0) : Type 0 where
  pub moment : CourseValue K
  pub breaks : List ℕ
  pub watches : List ℕ
  pub limit : ℕ

-- Where it stands with this history, and with what was taken back from it.
abbrev pub point_of : {K : Type 0} → SessionValue K → Track → Point
point_of s h = record { history = h.history; ahead = h.ahead; state = s.moment.state; breaks = s.breaks; watches = s.watches }

-- What it was opened with.
abbrev pub bounds_of : {K : Type 0} → (K → ℕ) → SessionValue K → Bounds
bounds_of room s = record { limit = s.limit; room = room s.moment.keeper }

-- The session stands for this history, and for what was taken back from it.
abbrev pub HasPast : {K : Type 0} → (K → List Kept → Type 0) → SessionValue K → Track → Type 0
HasPast holds s h = Follows holds s.moment h

-- What a point has of both.
abbrev pub track_at : Point → Track
track_at p = record { history = p.history; ahead = p.ahead }

-- A session stands at a point.
abbrev pub StandsAt : {K : Type 0} → (K → List Kept → Type 0) → SessionValue K → Point → Type 0
StandsAt holds s p = (point_of s (track_at p) ≡ p) × HasPast holds s (track_at p)

-- How often a keeper has refused, after a command with this gap.
abbrev pub refusals_with : Option ℕ → ℕ → ℕ
refusals_with None n = n
refusals_with (Some kept) n = one_more n

-- The same after commands with these gaps, one after another.
abbrev pub refusals_after_all : List (Option ℕ) → ℕ → ℕ
refusals_after_all [] n = n
refusals_after_all (gap ∷ gaps) n = refusals_after_all gaps (refusals_with gap n)

-- How many moves of a command were kept before the one that the keeper refused, as its answer tells; None where none was refused.
abbrev pub gap_of : Result Reply Refusal → Option ℕ
gap_of (Err OutOfMemory) = Some 0
gap_of (Ok (Forward k Memory)) = Some k
gap_of (Ok (Redone k Memory)) = Some k
gap_of _ = None

-- The session obeyed a command: what it answers, and where it then stands for each history that it stood for, is the command's meaning
-- with the gap that the answer tells. The keeper counts one more refusal where there is a gap. What the session was opened with stays,
-- and what the reply names is there.
pub record Obeys {K : Type 0} (holds : K → List Kept → Type 0) (refusals room : K → ℕ) (old new : SessionValue K)
    (meaning : Option ℕ → Point → Outcome) (answer : Result Reply Refusal) : Type 0 where
  pub answered : (h : Track) → HasPast holds old h → answer ≡ (meaning (gap_of answer) (point_of old h)).answer
  pub stands : (h : Track) → HasPast holds old h → StandsAt holds new (meaning (gap_of answer) (point_of old h)).point
  pub counted : refusals new.moment.keeper ≡ refusals_with (gap_of answer) (refusals old.moment.keeper)
  pub bounds : bounds_of room new ≡ bounds_of room old
  pub there : IfOk answer (λ reply. IsThere reply new.moment.state)
