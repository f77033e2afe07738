use Rattle.std.proofs.Common.{length}
use Rattle.counted_io.specs.Lines.{lines}
use Rattle.bpfdb_script.proofs.Telling.{Telling}
use Rattle.bpf_cover.specs.Tracefiles.{rows_text}
use Rattle.bpf_cover.proofs.tracefile.put_rows.Given as goal

abbrev pub invariant-loop-rest : goal.invariant-loop-rest
invariant-loop-rest g l =
    Telling g.W.Write.contents l.fn.writer l.fn.so_far l.writer l.told (rows_text l.head l.marks (lines l.rest)) (rows_text l.head l.marks (lines l.table))

abbrev pub decreases-loop-rest : goal.decreases-loop-rest
decreases-loop-rest g l = length l.rest
