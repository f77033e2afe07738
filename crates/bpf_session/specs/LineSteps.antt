-- Scaffolding: what obeying one line of a script leaves.
use Rattle.std.specs.Prelude.{◌≡◌, ℕ, Bool, true, List, Option, Result, Ok, Err, IfOk, OnErr}
use Rattle.counted_io.specs.Counted.{Tally, one_more}
use Rattle.counted_io.specs.Writing.{Writes}
use Rattle.bpf_entries.specs.Keeping.{Kept}
use Rattle.bpf_journal.specs.Tracks.{Track}
use Rattle.bpfdb_script.specs.Commands.{command_of}
use Rattle.bpf_session.specs.Sessions.{SessionValue, StandsAt, bounds_of, point_of, refusals_with}
use Rattle.bpf_session.specs.Output.{effect}

-- What was written and left is the effect of a line, for the gap that its answer tells.
pub record ObeysLine {K W E : Type 0} (holds : K → List Kept → Type 0) (refusals room : K → ℕ) (contents : W → Option (List ℕ))
    (old new : SessionValue K) (before after : Tally W) (h : Track) (line : List ℕ) (result : Result Bool E) : Type 0 where
  pub gap : Option ℕ
  pub told : (effect gap (bounds_of room old) (command_of line) (point_of old h)).gap ≡ gap
  pub counted : refusals new.moment.keeper ≡ refusals_with gap (refusals old.moment.keeper)
  pub goes_on : IfOk result (λ more. more ≡ (effect gap (bounds_of room old) (command_of line) (point_of old h)).goes_on)
  pub stays : OnErr result ((effect gap (bounds_of room old) (command_of line) (point_of old h)).goes_on ≡ true)
  pub written : Writes contents before after result (effect gap (bounds_of room old) (command_of line) (point_of old h)).text
  pub stands : StandsAt holds new (effect gap (bounds_of room old) (command_of line) (point_of old h)).point

-- A writer's failures: one more where the result is a fault, and else as many as before.
abbrev pub FailsOnce : {W A E : Type 0} → Result A E → Tally W → Tally W → Type 0
FailsOnce (Ok value) old new = new.failures ≡ old.failures
FailsOnce (Err fault) old new = new.failures ≡ one_more old.failures
