use Rattle.std.proofs.Common.{◌∙◌, Some, sym}
use Rattle.bpfdb_jobs.proofs.origin.parts_of.Goals as goal

pub returns-in-Ok-clause-ok : goal.returns-in-Ok-clause-ok
returns-in-Ok-clause-ok c =
    let found = sym (rw c.as_bytes.ensures.value at c.find.ensures) ∙ c.in-Ok.is in
    (Some c.in-Ok.what, rw c.in-Some.is found, c.parts_asked.ensures)
