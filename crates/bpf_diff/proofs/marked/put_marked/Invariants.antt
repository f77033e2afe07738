use Rattle.std.proofs.Common.{flat_map, length}
use Rattle.bpfdb_script.proofs.Telling.{Telling}
use Rattle.counted_io.specs.Lines.{lines}
use Rattle.bpf_diff.specs.Values.{marked_line}
use Rattle.bpf_diff.proofs.marked.put_marked.Given as goal

abbrev pub invariant-loop-rest : goal.invariant-loop-rest
invariant-loop-rest g l = Telling g.W.Write.contents l.fn.writer l.fn.so_far l.writer l.told (flat_map (marked_line l.mark) (lines l.rest)) (flat_map (marked_line l.mark) (lines l.text))

abbrev pub decreases-loop-rest : goal.decreases-loop-rest
decreases-loop-rest g l = length l.rest
