use Rattle.std.proofs.Common.{drop, flat_map}
use Rattle.bpfdb_script.proofs.Telling.{Telling}
use Rattle.bpf_origin.specs.Texts.{written_text}
use Rattle.bpf_origin.proofs.line.put_parts.Given as goal

abbrev pub invariant-loop-part : goal.invariant-loop-part
invariant-loop-part g l = Telling g.W.Write.contents l.fn.writer l.fn.so_far l.writer l.told (flat_map (written_text l.cpu) (drop l.part-index l.parts)) (flat_map (written_text l.cpu) l.parts)
