use Rattle.std.proofs.Common.{◌≡◌, drop}
use Rattle.std.specs.List.{list_all}
use Rattle.bpf_suite.specs.Cells.{has_pattern}
use Rattle.bpf_suite.proofs.cells.have_patterns.Given as goal

abbrev pub invariant-loop-line : goal.invariant-loop-line
invariant-loop-line l = list_all has_pattern (drop l.line-index l.lines) ≡ list_all has_pattern l.lines
