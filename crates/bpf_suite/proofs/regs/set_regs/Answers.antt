use Rattle.std.proofs.Common.{ap, ◌∙◌}
use Rattle.bpf_steps.specs.State.{State}
use Rattle.bpf_suite.proofs.RegValues.{regs-program}
use Rattle.bpf_suite.proofs.regs.set_regs.Goals as goal

pub returns-clause-program : goal.returns-clause-program
returns-clause-program c = ap (λ (y : State). y.program) c.set_each.ensures ∙ regs-program c.regs.inside.lines.now c.args.cpu.now
