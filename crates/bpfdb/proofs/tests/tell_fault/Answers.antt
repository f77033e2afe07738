use Rattle.bpfdb.proofs.tests.tell_fault.Goals as goal

pub returns-in-Section : goal.returns-in-Section
returns-in-Section g c = rw c.in-Section.is c.tell_section.ensures

pub returns-in-Link : goal.returns-in-Link
returns-in-Link g c = rw c.in-Link.is c.tell_link.ensures

pub returns-in-Memory : goal.returns-in-Memory
returns-in-Memory g c = rw c.in-Memory.is c.tell.ensures
