use Rattle.std.proofs.Common.{refl}
use Rattle.bpfdb.specs.Done.{Done, Unread}
use Rattle.bpfdb.proofs.doing.do_plan.Goals as goal

pub returns-in-Ok-clause-does : goal.returns-in-Ok-clause-does
returns-in-Ok-clause-does g c = Done _ c.in-Ok.ensures.ok (rw c.bytes.ensures at c.do_read.ensures.does)

pub returns-in-Err-clause-does : goal.returns-in-Err-clause-does
returns-in-Err-clause-does g c = Unread c.in-Err.fault c.in-Err.ensures.err (refl, refl, c.give_up.ensures.told, c.give_up.ensures.value)
