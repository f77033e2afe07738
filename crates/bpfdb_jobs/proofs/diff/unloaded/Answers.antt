use Rattle.std.proofs.Common.{inl}
use Rattle.bpfdb_jobs.proofs.diff.unloaded.Goals as goal

pub returns-in-Object : goal.returns-in-Object
returns-in-Object c = inl (rw c.in-Object.is at c.requires)
