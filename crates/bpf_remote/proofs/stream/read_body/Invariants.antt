use Rattle.std.proofs.Common.{◌-◌, ◌^◌}
use Rattle.bpf_remote.proofs.Cutting.{Bytes}
use Rattle.bpf_remote.proofs.stream.read_body.Given as goal

abbrev pub invariant-loop-fault : goal.invariant-loop-fault
invariant-loop-fault g l = Bytes g.R.Read.remaining l.fn.reader l.reader l.body

-- the reads that are left
abbrev pub decreases-loop-fault : goal.decreases-loop-fault
decreases-loop-fault g l = 2 ^ 64 - 1 - l.reader.reads
