use Rattle.std.proofs.Common.{ℕ, List, subst, sym}
use Rattle.bpf_steps.specs.State.{IsFrame}
use Rattle.bpf_machine.proofs.Fitting.{frame_fits}
use Rattle.bpf_machine.proofs.cpu.Cpu.call_frame.Goals as goal

pub returns-clause-frame : goal.returns-clause-frame
returns-clause-frame c =
    subst (λ (numbers : List ℕ). IsFrame c.args.self.now.program (record { return_pc = c.args.return_pc; saved = numbers })) (sym c.saved.ensures) (frame_fits c.args.self.now c.args.return_pc c.invariant.ensures c.requires)
