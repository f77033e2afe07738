use Rattle.std.proofs.Common.{refl}
use Rattle.bpfdb.specs.Done.{Chosen, Unchosen}
use Rattle.bpfdb.proofs.doing.do_read.Goals as goal

pub returns-in-Err-clause-does : goal.returns-in-Err-clause-does
returns-in-Err-clause-does g c = Unchosen c.in-Err.fault c.in-Err.ensures.err (refl, refl, c.refuse_context.ensures.told, c.refuse_context.ensures.value)

pub returns-clause-does : goal.returns-clause-does
returns-clause-does g c =
    Chosen c.in-Ok.contexts c.in-Ok.ensures.ok _ c.say_contexts.ensures (rw c.with_contexts-bytes.ensures at c.do_replaced.ensures.does)
