use Rattle.bpf_diff.proofs.follow.take_step.Goals as goal

pub returns : goal.returns
returns c = record { is = c.invariant.ensures; slot = c.pc-slot.ensures; change = c.look_on-change.ensures; next = c.commit.ensures }
