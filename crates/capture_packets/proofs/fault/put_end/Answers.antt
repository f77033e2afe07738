use Rattle.capture_packets.proofs.fault.put_end.Goals as goal

pub returns-in-LinkType : goal.returns-in-LinkType
returns-in-LinkType g c = λ first front known. rw c.in-LinkType.is (c.put_link.ensures first front known)

pub returns-in-Missing : goal.returns-in-Missing
returns-in-Missing g c = λ first front known. rw c.in-Missing.is (c.put_all.ensures first front known)

pub returns-in-Cut : goal.returns-in-Cut
returns-in-Cut g c = λ first front known. rw c.in-Cut.is (c.put_all-in-Cut.ensures first front known)
