use Rattle.std.proofs.Common.{ap, ◌∙◌}
use Rattle.bpf_steps.specs.State.{State}
use Rattle.bpf_suite.proofs.Programs.{plain_end-program}
use Rattle.bpf_suite.proofs.outcome.run.Goals as goal

pub returns-clause-program : goal.returns-clause-program
returns-clause-program c =
    ap (λ (y : State). y.program) c.run_plain-ending.ensures.next ∙ plain_end-program _ c.set_regs.new.cpu ∙ c.set_regs.ensures.program
