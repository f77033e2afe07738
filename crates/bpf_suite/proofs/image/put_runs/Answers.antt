use Rattle.std.proofs.Common.{ap, ◌∙◌}
use Rattle.bpf_steps.specs.State.{State}
use Rattle.bpf_suite.proofs.CellValues.{runs-program}
use Rattle.bpf_suite.proofs.image.put_runs.Goals as goal

pub returns-clause-program : goal.returns-clause-program
returns-clause-program c = ap (λ (y : State). y.program) c.put_each.ensures ∙ runs-program c.as_slice.result.now c.args.cpu.now
