use Rattle.std.proofs.Common.{◌≡◌, drop}
use Rattle.bpf_suite.specs.Regs.{with_regs}
use Rattle.bpf_suite.proofs.regs.set_each.Given as goal

abbrev pub invariant-loop-line : goal.invariant-loop-line
invariant-loop-line l = with_regs (drop l.line-index l.lines) l.cpu ≡ with_regs l.lines l.fn.cpu
