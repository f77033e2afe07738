use Rattle.bpf_whynot.proofs.branches.put_end.Goals as goal

pub returns-then-opening : goal.returns-then-opening
returns-then-opening g c = rw c.if-opening.true c.put.ensures

pub returns-else-opening : goal.returns-else-opening
returns-else-opening g c = rw c.if-opening.false c.put-else-opening.ensures
