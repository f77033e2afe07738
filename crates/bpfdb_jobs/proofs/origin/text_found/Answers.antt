use Rattle.bpfdb_jobs.proofs.origin.text_found.Goals as goal

pub returns-in-Ok-clause-text : goal.returns-in-Ok-clause-text
returns-in-Ok-clause-text g c = λ h stands.
    let written = rw c.in-Ok.is at c.put_found-told.ensures.text h stands in
    rw c.into_inner.ensures (rw (c.new-writer.ensures, c.new.ensures.items) at written.ok)

pub returns-in-Ok-clause-extent : goal.returns-in-Ok-clause-extent
returns-in-Ok-clause-extent g c = λ h stands. c.put_found-told.ensures.extent h stands
