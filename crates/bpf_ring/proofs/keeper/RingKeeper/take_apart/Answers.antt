use Rattle.std.proofs.Common.{subst, sym}
use Rattle.bpf_machine.specs.Moves.{HasComeBy}
use Rattle.bpf_ring.specs.Taking.{TakesText}
use Rattle.bpf_ring.proofs.keeper.RingKeeper.take_apart.Goals as goal

pub take_text-requires : goal.take_text-requires
take_text-requires c = subst (HasComeBy c.args.cpu.now) (sym c.copy_newest.ensures) c.requires.come

pub returns : goal.returns
returns c = subst (λ bytes. TakesText bytes c.take_text.result c.args.cpu.now c.take_text.new.cpu c.args.self.now c.take_text.new.self) c.copy_newest.ensures c.take_text.ensures
