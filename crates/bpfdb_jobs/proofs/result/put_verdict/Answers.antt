use Rattle.std.proofs.Common.{◌++◌, append_assoc, codes}
use Rattle.counted_io.proofs.Appending.{Writes-text}
use Rattle.bpfdb_jobs.proofs.result.put_verdict.Goals as goal

pub returns-in-Some : goal.returns-in-Some
returns-in-Some g c = λ first front known.
    let begun = c.put-begun.ensures first front known in
    rw c.in-Some.is
    (Writes-text g.W.Write.contents _ _ _ _ _ (c.put.ensures first _ begun) (append_assoc front (codes " ") c.in-Some.name.now))
