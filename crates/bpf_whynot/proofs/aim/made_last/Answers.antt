use Rattle.bpf_whynot.proofs.aim.made_last.Goals as goal

pub returns-then-by_value-clause-left : goal.returns-then-by_value-clause-left
returns-then-by_value-clause-left g c = λ h program slots stands are.
    rw c.if-by_value.true (c.leave_unmade-newest.ensures.left _ program slots stands.0 are)
