use Rattle.bpfdb_faults.proofs.line.put_origin.Goals as goal

pub returns-in-Program : goal.returns-in-Program
returns-in-Program g c = λ first front known. rw c.in-Program.is (c.put_source.ensures first front known)

pub returns-in-Helper : goal.returns-in-Helper
returns-in-Helper g c = λ first front known. rw c.in-Helper.is (c.put_source-in-Helper.ensures first front known)
