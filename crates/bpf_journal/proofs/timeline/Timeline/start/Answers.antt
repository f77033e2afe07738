use Rattle.std.proofs.Common.{[]}
use Rattle.bpf_journal.proofs.timeline.Timeline.start.Goals as goal

pub invariant_of-result : goal.invariant_of-result
invariant_of-result g c = record { history = []; stands = (c.requires, tt) }
