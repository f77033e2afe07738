use Rattle.std.proofs.Common.{drop}
use Rattle.std.specs.Prelude.{flat_map}
use Rattle.bpfdb_script.proofs.Telling.{Telling}
use Rattle.bpf_suite.specs.Reports.{cell_text}
use Rattle.bpf_suite.proofs.values.put_each_cell.Given as goal

abbrev pub invariant-loop-line : goal.invariant-loop-line
invariant-loop-line g l =
    Telling g.W.Write.contents l.fn.writer l.fn.so_far l.writer l.told (flat_map (cell_text l.cpu) (drop l.line-index l.wrong)) (flat_map (cell_text l.cpu) l.wrong)
