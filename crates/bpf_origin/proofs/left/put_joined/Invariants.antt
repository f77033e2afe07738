use Rattle.std.proofs.Common.{drop, flat_map}
use Rattle.bpfdb_script.proofs.Telling.{Telling}
use Rattle.bpf_origin.specs.Texts.{joined, left_line}
use Rattle.bpf_origin.proofs.left.put_joined.Given as goal

abbrev pub invariant-loop-place : goal.invariant-loop-place
invariant-loop-place g l =
    Telling g.W.Write.contents l.fn.writer l.fn.so_far l.writer l.told (flat_map (left_line l.opening l.cpu) (joined l.run (drop l.place-index l.others)))
    (flat_map (left_line l.opening l.cpu) (joined l.fn.first l.others))
