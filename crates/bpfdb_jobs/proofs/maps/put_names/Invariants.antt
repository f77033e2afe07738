use Rattle.counted_io.specs.Writing.{WritesAfter}
use Rattle.bpf_link.specs.Names.{built}
use Rattle.bpfdb_jobs.specs.MapLines.{with_name}
use Rattle.bpfdb_jobs.proofs.maps.put_names.Given as goal

abbrev pub invariant-loop-number : goal.invariant-loop-number
invariant-loop-number g l = WritesAfter g.E.Write.contents l.fn.errors l.fn.so_far l.errors l.told (built (with_name l.object l.places) l.number)
