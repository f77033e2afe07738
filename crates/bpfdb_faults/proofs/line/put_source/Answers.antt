use Rattle.bpfdb_faults.proofs.line.put_source.Goals as goal

pub returns-in-Some : goal.returns-in-Some
returns-in-Some g c = λ first front known. rw c.in-Some.is (c.put_all.ensures first front known)
