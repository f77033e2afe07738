use Rattle.std.proofs.Common.{◌∙◌, sym}
use Rattle.bpfdb_jobs.proofs.naming.object_naming.Goals as goal

pub returns-else-is_memory-clause-ok : goal.returns-else-is_memory-clause-ok
returns-else-is_memory-clause-ok c =
    (c.in-Err.told, rw c.as_slice-own.ensures.value at c.in-Err.ensures.err, sym c.is_memory.ensures ∙ c.if-is_memory.false)
