use Rattle.bpf_whynot.proofs.branches.follow.Goals as goal

pub returns : goal.returns
returns c = rw c.saturating_sub.ensures at c.chase.ensures
