use Rattle.std.proofs.Common.{◌≡◌, drop}
use Rattle.std.specs.List.{list_all}
use Rattle.std.specs.Prelude.{is_some}
use Rattle.bpf_suite.specs.Cells.{value_of}
use Rattle.bpf_suite.proofs.cells.have_values.Given as goal

abbrev pub invariant-loop-line : goal.invariant-loop-line
invariant-loop-line l = list_all (λ line. is_some (value_of line)) (drop l.line-index l.lines) ≡ list_all (λ line. is_some (value_of line)) l.lines
