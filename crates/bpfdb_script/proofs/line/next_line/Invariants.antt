use Rattle.std.proofs.Common.{◌-◌, ◌^◌}
use Rattle.bpfdb_script.proofs.Readings.{Reading}
use Rattle.bpfdb_script.proofs.line.next_line.Given as goal

abbrev pub invariant-loop-fault : goal.invariant-loop-fault
invariant-loop-fault g l = Reading g.R.Read.remaining l.fn.reader l.reader l.line

-- the reads that are left
abbrev pub decreases-loop-fault : goal.decreases-loop-fault
decreases-loop-fault g l = 2 ^ 64 - 1 - l.reader.reads
