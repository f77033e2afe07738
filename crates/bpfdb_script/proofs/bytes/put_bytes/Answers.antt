-- The run that is there.
use Rattle.std.proofs.Common.{sym}
use Rattle.bpfdb_script.specs.Texts.{text_of_bytes}
use Rattle.bpfdb_script.proofs.bytes.put_bytes.Goals as goal

pub returns : goal.returns
unfolding text_of_bytes
returns g c =
    let found = rw c.get.ensures.value at c.in-Some.ensures.value in
    rw (sym found) c.put_run.ensures
