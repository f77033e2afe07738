use Rattle.bpfdb_faults.proofs.line.put_line.Goals as goal

pub returns-in-Unreadable : goal.returns-in-Unreadable
returns-in-Unreadable g c = λ first front known. rw c.in-Unreadable.is (c.put_file.ensures first front known)

pub returns-in-Unwritable : goal.returns-in-Unwritable
returns-in-Unwritable g c = λ first front known. rw c.in-Unwritable.is (c.put_file-in-Unwritable.ensures first front known)

pub returns-in-NotText : goal.returns-in-NotText
returns-in-NotText g c = λ first front known. rw c.in-NotText.is (c.put.ensures first front known)

pub returns-in-Input : goal.returns-in-Input
returns-in-Input g c = λ first front known. rw c.in-Input.is (c.put-in-Input.ensures first front known)
