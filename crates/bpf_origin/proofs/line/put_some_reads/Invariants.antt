use Rattle.std.proofs.Common.{drop, flat_map}
use Rattle.bpfdb_script.proofs.Telling.{Telling}
use Rattle.bpf_origin.specs.Texts.{read_text}
use Rattle.bpf_origin.proofs.line.put_some_reads.Given as goal

abbrev pub invariant-loop-part : goal.invariant-loop-part
invariant-loop-part g l = Telling g.W.Write.contents l.fn.writer l.fn.so_far l.writer l.told (flat_map read_text (drop l.part-index l.parts)) (flat_map read_text l.parts)
