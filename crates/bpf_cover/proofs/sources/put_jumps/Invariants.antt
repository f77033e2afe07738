use Rattle.std.specs.Prelude.{drop, flat_map}
use Rattle.bpfdb_script.proofs.Telling.{Telling}
use Rattle.bpf_cover.specs.Sources.{jump_text}
use Rattle.bpf_cover.proofs.sources.put_jumps.Given as goal

abbrev pub invariant-loop-spot : goal.invariant-loop-spot
invariant-loop-spot g l =
    Telling g.W.Write.contents l.fn.writer l.fn.so_far l.writer l.told (flat_map (jump_text l.marks) (drop l.spot-index l.spots))
    (flat_map (jump_text l.marks) l.spots)
