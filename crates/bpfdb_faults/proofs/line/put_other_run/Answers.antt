use Rattle.std.proofs.Common.{append_assoc}
use Rattle.bpfdb_faults.proofs.line.put_other_run.Goals as goal

pub returns : goal.returns
returns g c = λ first front known.
    simp append_assoc at (c.put.ensures first _ (c.put_refusal-said.ensures first front known))
