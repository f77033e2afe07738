use Rattle.bpf_journal.specs.Tracks.{Track}
use Rattle.bpf_origin.specs.Pasts.{IsSameKeeper}
use Rattle.bpf_whynot.specs.Answers.{lies_at}
use Rattle.bpf_whynot.proofs.Passing.{Passed}
use Rattle.bpf_whynot.proofs.whynot.go_to.Given as goal

abbrev pub invariant-loop-k : goal.invariant-loop-k
invariant-loop-k g l =
    IsSameKeeper g.P.Past.room g.P.Past.refused l.fn.history l.history
    × ((t : Track) → g.P.Past.follows l.fn.history t →
    Passed g.P.Past.state g.P.Past.follows (lies_at l.moves) t (g.P.Past.state l.fn.history) l.k l.history)
