use Rattle.std.proofs.Common.{drop, flat_map}
use Rattle.std.specs.List.{filter_map}
use Rattle.bpfdb_script.proofs.Telling.{Telling}
use Rattle.bpf_suite.specs.Cells.{cell_of}
use Rattle.bpf_suite.specs.Shown.{cell_command}
use Rattle.bpf_suite.proofs.shown.put_cell_commands.Given as goal

abbrev pub invariant-loop-line : goal.invariant-loop-line
invariant-loop-line g l =
    Telling g.W.Write.contents l.fn.writer l.fn.so_far l.writer l.told (flat_map cell_command (filter_map cell_of (drop l.line-index l.lines)))
    (flat_map cell_command (filter_map cell_of l.lines))
