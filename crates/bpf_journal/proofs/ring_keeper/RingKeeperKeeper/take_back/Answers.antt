use Rattle.bpf_journal.specs.contracts.ring_keeper.RingKeeperKeeper.TheImpl as impl
use Rattle.bpf_journal.proofs.RingKeeping.{holds_way, some_back, none_back}
use Rattle.bpf_journal.proofs.ring_keeper.RingKeeperKeeper.take_back.Goals as goal

pub take_back-requires : goal.take_back-requires
take_back-requires c =
    let i = c.requires.way in
    holds_way c.args.self.now.ring c.args.self.now.counts c.args.cpu.now i.history i.stands.0 i.stands.1

pub returns-in-Some-clause-back : goal.returns-in-Some-clause-back
returns-in-Some-clause-back c = λ h stands.
    some_back impl.ghosts.holds h c.args.self.now _ c.args.cpu.now c.take_back.new.cpu c.in-Some.tag c.of_tag.result
    c.in-Some.ensures.none c.in-Some.ensures.some c.in-Some.ensures.back c.of_tag.ensures stands

pub returns-in-None-clause-back : goal.returns-in-None-clause-back
returns-in-None-clause-back c = λ h stands.
    none_back impl.ghosts.holds h c.args.self.now _ c.args.cpu.now c.take_back.new.cpu c.in-None.ensures.none c.in-None.ensures.some stands
