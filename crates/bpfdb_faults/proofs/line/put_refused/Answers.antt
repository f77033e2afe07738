use Rattle.std.proofs.Common.{append_assoc}
use Rattle.bpfdb_faults.proofs.line.put_refused.Goals as goal

pub returns : goal.returns
returns g c = λ first front known.
    let said = c.put_numbered-said.ensures first front known in
    simp append_assoc at (c.put.ensures first _ said)
