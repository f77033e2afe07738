use Rattle.bpfdb.proofs.tests.put_end.Goals as goal

pub returns-in-None : goal.returns-in-None
returns-in-None g c = λ first front known. rw c.in-None.is (c.put_all.ensures first front known)

pub returns-in-Some : goal.returns-in-Some
returns-in-Some g c = λ first front known. rw c.in-Some.is (rw c.saturating_add.ensures at (c.put_all-in-Some.ensures first front known))
