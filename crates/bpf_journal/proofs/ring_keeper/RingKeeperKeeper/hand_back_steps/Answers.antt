use Rattle.bpf_journal.proofs.GoingBack.{holds_whole}
use Rattle.bpf_journal.proofs.ring_keeper.RingKeeperKeeper.hand_back_steps.Goals as goal

pub hand_back_steps-requires : goal.hand_back_steps-requires
hand_back_steps-requires c =
    let i = c.requires.way in
    holds_whole c.args.self.now.ring c.args.self.now.counts c.args.cpu.now i.history i.stands.0 i.stands.1
