use Rattle.bpf_journal.proofs.Handing.{left_over}
use Rattle.bpf_journal.proofs.timeline.Timeline.hand_back.Goals as goal

pub invariant_of-self : goal.invariant_of-self
invariant_of-self g c =
    left_over g.K.Keeper.holds c.self.inside.keeper c.hand_back.new.self c.self.inside.cpu c.hand_back.new.cpu c.hand_back.result _
    c.hand_back.ensures.back c.hand_back.ensures.stays c.self.invariant
