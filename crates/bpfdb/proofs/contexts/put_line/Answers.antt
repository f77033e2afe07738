use Rattle.bpfdb.proofs.contexts.put_line.Goals as goal

pub returns-in-Some : goal.returns-in-Some
returns-in-Some g c = λ first front known. rw c.in-Some.is (c.put_note.ensures first front known)

pub returns-in-None : goal.returns-in-None
returns-in-None g c = λ first front known. rw c.in-None.is (c.put.ensures first front known)
