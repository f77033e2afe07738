use Rattle.std.proofs.Common.{◌≡◌, take}
use Rattle.bpf_suite.specs.Regs.{last_lines}
use Rattle.bpf_suite.proofs.regs.last_lines.Given as goal

abbrev pub invariant-loop-line : goal.invariant-loop-line
invariant-loop-line l = l.last.items ≡ last_lines (take l.line-index l.lines)
