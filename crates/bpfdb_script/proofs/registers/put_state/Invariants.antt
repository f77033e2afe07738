use Rattle.std.proofs.Common.{codes, ◌++◌, ◌-◌}
use Rattle.counted_io.specs.Writing.{hexadecimal}
use Rattle.bpf_steps.specs.State.{register}
use Rattle.bpfdb_script.proofs.Telling.{Telling}
use Rattle.bpfdb_script.specs.Texts.{registers_from}
use Rattle.bpfdb_script.proofs.registers.put_state.Given as goal

abbrev pub invariant-loop-number : goal.invariant-loop-number
invariant-loop-number g l =
    Telling g.W.Write.contents l.fn.writer l.fn.so_far l.writer l.told (registers_from l.cpu l.number (11 - l.number))
    (codes "r0=" ++ hexadecimal (register l.cpu 0) ++ registers_from l.cpu 1 10)
