use Rattle.std.proofs.Common.{subst, sym}
use Rattle.bpf_machine.specs.Moves.{HasComeBy}
use Rattle.bpf_ring.specs.Taking.{TakesText}
use Rattle.bpf_ring.proofs.keeper.RingKeeper.take_newest_of.Goals as goal

pub take_text-requires : goal.take_text-requires
take_text-requires c = subst (HasComeBy c.args.cpu.now) (sym c.in-Some.ensures) c.requires.come

pub returns-in-Some : goal.returns-in-Some
returns-in-Some c = subst (λ bytes. TakesText bytes c.take_text.result c.args.cpu.now c.take_text.new.cpu c.args.self.now c.take_text.new.self) c.in-Some.ensures c.take_text.ensures
