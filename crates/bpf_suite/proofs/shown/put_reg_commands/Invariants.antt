use Rattle.std.proofs.Common.{drop}
use Rattle.std.specs.Prelude.{flat_map}
use Rattle.bpfdb_script.proofs.Telling.{Telling}
use Rattle.bpf_suite.specs.Shown.{reg_command}
use Rattle.bpf_suite.proofs.shown.put_reg_commands.Given as goal

abbrev pub invariant-loop-line : goal.invariant-loop-line
invariant-loop-line g l =
    Telling g.W.Write.contents l.fn.writer l.fn.so_far l.writer l.told (flat_map reg_command (drop l.line-index l.regs)) (flat_map reg_command l.regs)
