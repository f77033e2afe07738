use Rattle.bpfdb_faults.proofs.line.put_more.Goals as goal

pub returns-in-Helper : goal.returns-in-Helper
returns-in-Helper g c = λ first front known. rw c.in-Helper.is (c.put_helpers.ensures first front known)

pub returns-in-Fields : goal.returns-in-Fields
returns-in-Fields g c = λ first front known. rw c.in-Fields.is (rw c.from.ensures at (c.put_all.ensures first front known))

pub returns-in-ManySections : goal.returns-in-ManySections
returns-in-ManySections g c = λ first front known. rw c.in-ManySections.is (c.put.ensures first front known)

pub returns-in-ManyPrograms : goal.returns-in-ManyPrograms
returns-in-ManyPrograms g c = λ first front known. rw c.in-ManyPrograms.is (c.put-in-ManyPrograms.ensures first front known)
