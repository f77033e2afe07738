use Rattle.std.proofs.Common.{drop, flat_map}
use Rattle.bpfdb_script.proofs.Telling.{Telling}
use Rattle.bpfdb_script.specs.Shown.{spelled}
use Rattle.bpfdb_script.proofs.shown.put_char.Given as goal

abbrev pub invariant-loop-byte : goal.invariant-loop-byte
invariant-loop-byte g l = Telling g.W.Write.contents l.fn.writer l.fn.so_far l.writer l.told (flat_map spelled (drop l.byte-index l.bytes)) (flat_map spelled l.bytes)
