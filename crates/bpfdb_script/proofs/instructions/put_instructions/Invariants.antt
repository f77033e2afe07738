use Rattle.std.proofs.Common.{◌-◌}
use Rattle.bpfdb_script.specs.Texts.{instructions_from}
use Rattle.bpfdb_script.proofs.Telling.{Telling}
use Rattle.bpfdb_script.proofs.instructions.put_instructions.Given as goal

abbrev pub invariant-loop : goal.invariant-loop
invariant-loop g l = Telling g.W.Write.contents l.fn.writer l.fn.so_far l.writer l.told (instructions_from l.program l.at (l.end - l.counter)) (instructions_from l.program l.fn.slot l.fn.span)
