use Rattle.bpf_journal.specs.Tracks.{Follows, Track}
use Rattle.bpf_whynot.specs.Courses.{IsSameCourse}
use Rattle.bpf_whynot.proofs.BranchGoing.{Going}
use Rattle.bpf_whynot.proofs.branches.put_branches.Given as goal

abbrev pub invariant-loop-k : goal.invariant-loop-k
invariant-loop-k g l =
    IsSameCourse g.K.Keeper.room g.K.Keeper.refused l.fn.course l.course
    × ((t : Track) → Follows g.K.Keeper.holds l.fn.course t →
    Going g.K.Keeper.holds g.W.Write.contents l.question l.parts l.fn.writer l.fn.so_far t l.fn.course.state l.k l.hunt l.wanted l.course l.writer)
