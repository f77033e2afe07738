use Rattle.std.proofs.Common.{◌≡◌, length}
use Rattle.counted_io.specs.Lines.{lines}
use Rattle.bpfdb_jobs.specs.Hints.{line_at}
use Rattle.bpfdb_jobs.proofs.row.line_at.Given as goal

abbrev pub invariant-loop-rest : goal.invariant-loop-rest
invariant-loop-rest l = line_at l.slot (lines l.rest) ≡ line_at l.slot (lines l.table)

abbrev pub decreases-loop-rest : goal.decreases-loop-rest
decreases-loop-rest l = length l.rest
