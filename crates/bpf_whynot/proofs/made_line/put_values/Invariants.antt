use Rattle.std.proofs.Common.{drop, flat_map}
use Rattle.bpfdb_script.proofs.Telling.{Telling}
use Rattle.bpf_whynot.specs.Answers.{value_of}
use Rattle.bpf_whynot.proofs.made_line.put_values.Given as goal

abbrev pub invariant-loop-part : goal.invariant-loop-part
invariant-loop-part g l = Telling g.W.Write.contents l.fn.writer l.fn.so_far l.writer l.told (flat_map (value_of l.value) (drop l.part-index l.parts)) (flat_map (value_of l.value) l.parts)
