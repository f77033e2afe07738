use Rattle.std.proofs.Common.{subst, sym}
use Rattle.bpf_steps.specs.Fetched.{Fits}
use Rattle.bpf_machine.proofs.Fitting.{change_fits}
use Rattle.bpf_machine.proofs.cpu.Cpu.commit.Goals as goal

pub apply-requires : goal.apply-requires
apply-requires c = subst (Fits c.args.self.now) (sym c.requires.looked) (change_fits c.args.self.now c.invariant.ensures)
