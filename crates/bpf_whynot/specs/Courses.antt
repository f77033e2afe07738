-- An answer over what a course keeps, and how it leaves the course.
use Rattle.std.specs.Prelude.{◌≡◌, ◌≤◌, ℕ, List, Result, length}
use Rattle.counted_io.specs.declared.fault.WriteFault.{WriteFault}
use Rattle.bpf_entries.specs.Keeping.{Kept}
use Rattle.bpf_journal.specs.Histories.{Record, StandsFor}
use Rattle.bpf_journal.specs.Tracks.{CourseValue, RingHolds, Track}
use Rattle.bpf_origin.specs.Answers.{Answer}
use Rattle.bpf_origin.specs.Pasts.{CourseStands, gone_from}
use Rattle.bpf_origin.specs.declared.place.Part.{Part}
use Rattle.bpf_origin.specs.declared.question.Told.{Told}
use Rattle.bpf_steps.specs.State.{State}
use Rattle.bpf_whynot.specs.Branches.{AreBranches}
use Rattle.bpf_origin.specs.declared.question.Question.{Question}
use Rattle.bpf_whynot.specs.declared.branch_text.Found.{Found}

-- The answer was written, and the moves that were taken back for it can be made again.
pub record TellsBranches {K : Type 0} (holds : K → List Kept → Type 0) (q : Question) (writes : Result (Unit {0}) WriteFault → List ℕ → Type 0)
    (parts : List Part) (old new : CourseValue K) (told : Told) (t : Track) : Type 0 where
  pub answer : Answer
  pub is : AreBranches q parts t.history old.state answer
  pub text : writes told.written answer.text
  pub extent : told.extent ≡ answer.extent
  pub back : CourseStands holds new (gone_from told.moves t old.state)
  pub within : told.moves ≤ length t.history

-- The journal has the size that it had, and its keeper refused nothing.
pub record IsSameCourse {K : Type 0} (size refusals : K → ℕ) (old new : CourseValue K) : Type 0 where
  pub room : size new.keeper ≡ size old.keeper
  pub refused : refusals new.keeper ≡ refusals old.keeper

-- An answer by itself, with what it was found over, as that was.
pub record IsFound (q : Question) (parts : List Part) (h : List Record) (y : State) (found : Found) : Type 0 where
  pub answer : Answer
  pub is : AreBranches q parts h y answer
  pub text : found.text.items ≡ answer.text
  pub extent : found.extent ≡ answer.extent
  pub state : found.timeline.state ≡ y
  pub stands : StandsFor RingHolds found.timeline.keeper found.timeline.state h
