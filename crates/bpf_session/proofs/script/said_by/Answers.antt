use Rattle.std.proofs.Common.{sym}
use Rattle.bpfdb_script.proofs.Lines.{command_of-long}
use Rattle.bpf_session.proofs.script.said_by.Goals as goal

pub returns-in-None : goal.returns-in-None
returns-in-None c = λ text held. sym (command_of-long text (rw c.in-None.is at (c.bytes.ensures text held)))
