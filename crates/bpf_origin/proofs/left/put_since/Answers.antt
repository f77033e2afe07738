use Rattle.bpf_origin.proofs.left.put_since.Goals as goal

pub returns-then-opening : goal.returns-then-opening
returns-then-opening g c = rw c.if-opening.true c.put_opening.ensures

pub returns-else-opening : goal.returns-else-opening
returns-else-opening g c = rw c.if-opening.false c.put.ensures
