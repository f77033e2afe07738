use Rattle.bpfdb_jobs.proofs.whynot.why_found.Goals as goal

pub returns-in-Ok-clause-text : goal.returns-in-Ok-clause-text
returns-in-Ok-clause-text g c = λ program goals h are stands.
    let written = rw c.in-Ok.is at c.put_why-told.ensures.text program goals h are stands in
    rw c.into_inner.ensures (rw (c.new-writer.ensures, c.new.ensures.items) at written.ok)

pub returns-in-Ok-clause-extent : goal.returns-in-Ok-clause-extent
returns-in-Ok-clause-extent g c = λ program goals h are stands. c.put_why-told.ensures.extent program goals h are stands
