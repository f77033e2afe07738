use Rattle.bpfdb_files.proofs.FirstBytes.{any_read}
use Rattle.bpfdb_files.proofs.kinds.read_any.Goals as goal

pub returns-in-Ok-clause-ok : goal.returns-in-Ok-clause-ok
returns-in-Ok-clause-ok g c =
    any_read g.R.Read.remaining c.args.reader.now c.read_first.new.reader c.in-Ok.bytes.items c.in-Ok.ensures.bytes c.in-Ok.ensures.same
