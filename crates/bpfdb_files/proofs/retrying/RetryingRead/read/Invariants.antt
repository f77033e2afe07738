-- An interrupted read takes nothing, and leaves the buffer as long as it was.
use Rattle.std.proofs.Common.{◌≡◌, length}
use Rattle.std.specs.Io.KnownBytes.{Keeps}
use Rattle.bpfdb_files.proofs.retrying.RetryingRead.read.Given as goal

abbrev pub invariant-loop : goal.invariant-loop
invariant-loop g l = (length l.buf ≡ length l.initial.buf) × Keeps (g.T.Read.remaining l.initial.self.inner) (g.T.Read.remaining l.self.inner)
