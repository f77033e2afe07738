use Rattle.std.proofs.Common.{◌-◌, ◌^◌}
use Rattle.bpf_questions.proofs.Talking.{Talking}
use Rattle.bpf_questions.proofs.conversation.converse.Given as goal

abbrev pub invariant-lines : goal.invariant-lines
invariant-lines g l =
    Talking g.K.Keeper.holds g.K.Keeper.refused g.K.Keeper.room l.fn.view g.R.Read.remaining g.W.Write.contents l.fn.session l.session l.progress l.fn.reader l.reader l.fn.writer l.writer

-- the reads that are left
abbrev pub decreases-lines : goal.decreases-lines
decreases-lines g l = 2 ^ 64 - 1 - l.reader.reads
