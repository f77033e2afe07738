use Rattle.std.proofs.Common.{◌≡◌, drop}
use Rattle.std.specs.List.{filter_map}
use Rattle.bpf_suite.specs.Cells.{cell_of}
use Rattle.bpf_suite.specs.Outcomes.{missing, with_cells}
use Rattle.bpf_suite.proofs.outcome.set_cells.Given as goal

abbrev pub invariant-loop-line : goal.invariant-loop-line
invariant-loop-line l = record {
  program : l.cpu.program ≡ l.fn.cpu.program;
  state : with_cells (filter_map cell_of (drop l.line-index l.lines)) l.cpu ≡ with_cells (filter_map cell_of l.lines) l.fn.cpu;
  there : missing l.fn.cpu.program.maps (filter_map cell_of (drop l.line-index l.lines)) ≡ missing l.fn.cpu.program.maps (filter_map cell_of l.lines);
}
