use Rattle.std.proofs.Common.{append_assoc}
use Rattle.bpf_suite.proofs.values.put_cells.Goals as goal

pub returns-in-Ok : goal.returns-in-Ok
returns-in-Ok g c = λ all are first front known.
    let told = rw (c.as_slice.ensures.value, are.first) at (c.put_each_cell-told.ensures first front known) in
    rw c.in-Ok.is (simp append_assoc (simp append_assoc at (rw are.more at (c.put_more.ensures first _ told))))
