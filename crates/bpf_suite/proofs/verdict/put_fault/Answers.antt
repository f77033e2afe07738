use Rattle.bpf_suite.proofs.verdict.put_fault.Goals as goal

pub returns : goal.returns
returns g c = λ first front known. rw c.from-slot.ensures at (c.put_all.ensures first front known)
