use Rattle.std.proofs.Common.{length}
use Rattle.bpf_journal.specs.Tracks.{Track}
use Rattle.bpf_origin.specs.Answers.{answer}
use Rattle.bpf_origin.specs.Pasts.{IsSameKeeper}
use Rattle.bpf_origin.proofs.Going.{Going}
use Rattle.bpf_origin.proofs.origin.put_origin.Given as goal

abbrev pub invariant-loop-k : goal.invariant-loop-k
invariant-loop-k g l =
    IsSameKeeper g.P.Past.room g.P.Past.refused l.fn.history l.history
    × ((t : Track) → g.P.Past.follows l.fn.history t →
    Going g.P.Past.state g.P.Past.follows g.W.Write.contents l.question l.fn.writer l.fn.so_far (answer l.question 0 l.question.lines l.fn.wanted t.history (g.P.Past.state l.fn.history)) t (g.P.Past.state l.fn.history) (length t.history) l.k l.lines l.wanted l.history l.writer l.told)
