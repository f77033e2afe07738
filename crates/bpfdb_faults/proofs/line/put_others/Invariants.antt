use Rattle.counted_io.specs.Writing.{WritesAfter}
use Rattle.bpf_link.specs.Names.{built}
use Rattle.bpfdb_faults.specs.Faults.{with_other}
use Rattle.bpfdb_faults.proofs.line.put_others.Given as goal

abbrev pub invariant-loop-helper : goal.invariant-loop-helper
invariant-loop-helper g l = WritesAfter g.E.Write.contents l.fn.errors l.fn.so_far l.errors l.told (built (with_other l.others) l.helper)
