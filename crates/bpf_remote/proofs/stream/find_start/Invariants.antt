use Rattle.std.proofs.Common.{◌-◌, ◌^◌}
use Rattle.bpf_remote.proofs.Cutting.{Noise}
use Rattle.bpf_remote.proofs.stream.find_start.Given as goal

abbrev pub invariant-loop-fault : goal.invariant-loop-fault
invariant-loop-fault g l = Noise g.R.Read.remaining l.fn.reader l.reader

-- the reads that are left
abbrev pub decreases-loop-fault : goal.decreases-loop-fault
decreases-loop-fault g l = 2 ^ 64 - 1 - l.reader.reads
