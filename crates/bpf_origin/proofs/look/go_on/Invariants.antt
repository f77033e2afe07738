use Rattle.std.proofs.Common.{◌≤◌, ◌-◌, length}
use Rattle.bpf_journal.specs.Histories.{IsRun}
use Rattle.bpf_journal.specs.Tracks.{Track}
use Rattle.bpf_steps.specs.State.{State}
use Rattle.bpf_origin.specs.Pasts.{CourseStands, IsSameKeeper, gone_from}
use Rattle.bpf_origin.proofs.look.go_on.Given as goal

abbrev pub invariant-loop-k : goal.invariant-loop-k
invariant-loop-k g l =
    IsSameKeeper g.K.Keeper.room g.K.Keeper.refused l.fn.course.keeper l.course.keeper
    × ((t : Track) (y : State) → IsRun t.history y → l.moves ≤ length t.history →
    CourseStands g.K.Keeper.holds l.fn.course (gone_from l.moves t y) → CourseStands g.K.Keeper.holds l.course (gone_from (l.moves - l.k) t y))
