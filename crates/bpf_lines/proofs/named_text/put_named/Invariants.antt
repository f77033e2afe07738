use Rattle.std.proofs.Common.{flat_map, length}
use Rattle.bpfdb_script.proofs.Telling.{Telling}
use Rattle.counted_io.specs.Lines.{lines}
use Rattle.bpf_lines.specs.NamedTexts.{named_line}
use Rattle.bpf_lines.proofs.named_text.put_named.Given as goal

abbrev pub invariant-loop-rest : goal.invariant-loop-rest
invariant-loop-rest g l = Telling g.W.Write.contents l.fn.writer l.fn.so_far l.writer l.told (flat_map (named_line l.names) (lines l.rest)) (flat_map (named_line l.names) (lines l.text))

abbrev pub decreases-loop-rest : goal.decreases-loop-rest
decreases-loop-rest g l = length l.rest
