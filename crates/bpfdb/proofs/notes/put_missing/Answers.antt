use Rattle.bpfdb.proofs.notes.put_missing.Goals as goal

pub returns-in-Missing : goal.returns-in-Missing
returns-in-Missing g c = λ first front known. rw c.in-Missing.is (c.put.ensures first front known)

pub returns-in-Joined : goal.returns-in-Joined
returns-in-Joined g c = λ first front known. rw c.in-Joined.is (c.put-in-Joined.ensures first front known)

pub returns-in-Unneeded : goal.returns-in-Unneeded
returns-in-Unneeded g c = λ first front known. rw c.in-Unneeded.is (c.put-in-Unneeded.ensures first front known)
