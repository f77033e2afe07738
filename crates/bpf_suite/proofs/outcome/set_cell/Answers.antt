use Rattle.std.proofs.Common.{ap, ◌∙◌, rules, tests}
use Rattle.bpf_steps.specs.State.{State}
use Rattle.bpf_suite.proofs.CellValues.{edited-cell}
use Rattle.bpf_suite.proofs.outcome.set_cell.Goals as goal

pub returns-in-Ok : goal.returns-in-Ok
returns-in-Ok c = record {
  ok = search (rules, tests);
  next = search (rules, tests);
  err = tt;
  told = tt;
  program = ap (λ (y : State). y.program) c.in-Ok.ensures.next ∙ edited-cell c.args.cpu.now _ _ _;
}
