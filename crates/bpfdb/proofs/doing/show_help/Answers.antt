use Rattle.std.proofs.Common.{refl}
use Rattle.bpfdb.specs.Done.{Lost, Shown}
use Rattle.bpfdb.proofs.doing.show_help.Goals as goal

pub returns-in-Ok-write_help-clause-helps : goal.returns-in-Ok-write_help-clause-helps
returns-in-Ok-write_help-clause-helps g c =
    let written = rw c.in-Ok-write_help.is at c.write_help.ensures in
    Shown c.as_str.result.now (written.ok, written.same) refl refl

pub returns-clause-helps : goal.returns-clause-helps
returns-clause-helps g c =
    let written = rw c.in-Err.is at c.write_help.ensures in
    Lost c.as_str.result.now (written.err, written.fault) c.give_up-in-Err.ensures.told c.give_up-in-Err.ensures.value
