use Rattle.counted_io.specs.Writing.{WritesAfter}
use Rattle.bpf_link.specs.Names.{built}
use Rattle.bpfdb_jobs.specs.Programs.{with_row}
use Rattle.bpfdb_jobs.proofs.load.put_maps.Given as goal

abbrev pub invariant-loop-number : goal.invariant-loop-number
invariant-loop-number g l = WritesAfter g.W.Write.contents l.fn.writer l.fn.so_far l.writer l.told (built (with_row l.loaded) l.number)
