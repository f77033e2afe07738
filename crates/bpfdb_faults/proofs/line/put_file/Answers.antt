use Rattle.std.proofs.Common.{append_assoc}
use Rattle.bpfdb_faults.proofs.line.put_file.Goals as goal

pub returns : goal.returns
returns g c = λ first front known.
    let begun = c.put-begun.ensures first front known in
    let named = rw c.as_bytes.ensures.value at (c.put_shown-named.ensures first _ begun) in
    simp append_assoc (simp append_assoc at (c.put.ensures first _ named))
