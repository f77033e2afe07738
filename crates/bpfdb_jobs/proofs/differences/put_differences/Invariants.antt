use Rattle.counted_io.specs.Writing.{WritesAfter}
use Rattle.bpf_link.specs.Names.{built}
use Rattle.bpfdb_jobs.specs.Differences.{with_difference}
use Rattle.bpfdb_jobs.proofs.differences.put_differences.Given as goal

abbrev pub invariant-loop-k : goal.invariant-loop-k
invariant-loop-k g l = WritesAfter g.W.Write.contents l.fn.writer l.fn.so_far l.writer l.told (built (with_difference l.notes) l.k)
