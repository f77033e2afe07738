use Rattle.std.proofs.Common.{refl}
use Rattle.bpfdb_jobs.specs.Hints.{Hinted}
use Rattle.bpfdb_jobs.proofs.hint.add_hint.Goals as goal

pub returns-then-status-eq2 : goal.returns-then-status-eq2
returns-then-status-eq2 g c =
    Hinted c.hint_of-hint.result (rw (c.if-at_terminal.true, c.if-status-eq2.true) refl) c.hint_of-hint.ensures c.tell_hint.ensures
