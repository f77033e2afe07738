use Rattle.std.proofs.Common.{take, not}
use Rattle.std.specs.List.{filter}
use Rattle.bpf_suite.specs.Reports.{AreTold}
use Rattle.bpf_suite.specs.Verdicts.{holds}
use Rattle.bpf_suite.proofs.values.note_each.Given as goal

abbrev pub invariant-loop-line : goal.invariant-loop-line
invariant-loop-line l = AreTold (filter (λ line. not (holds l.cpu line)) (take l.line-index l.lines)) l.wrong
