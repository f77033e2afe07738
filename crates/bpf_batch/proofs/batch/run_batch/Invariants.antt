use Rattle.input_texts.specs.ReadLines.{to_come}
use Rattle.bpf_batch.proofs.Answering.{Answering}
use Rattle.bpf_batch.proofs.batch.run_batch.Given as goal

abbrev pub invariant-lines : goal.invariant-lines
invariant-lines g l = Answering l.fn.batch g.R.Read.remaining g.W.Write.contents l.fn.reader l.reader l.ahead l.fn.writer l.writer l.kept

-- the reads that are left, and the bytes ahead
abbrev pub decreases-lines : goal.decreases-lines
decreases-lines g l = to_come l.reader l.ahead
