use Rattle.bpfdb_faults.proofs.line.put_hint.Goals as goal

pub returns-in-Context : goal.returns-in-Context
returns-in-Context g c = λ first front known. rw c.in-Context.is (c.put.ensures first front known)
