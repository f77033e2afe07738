use Rattle.bpfdb_jobs.proofs.runs.compare.Goals as goal

pub returns-in-Ok-written : goal.returns-in-Ok-written
returns-in-Ok-written c =
    let found = c.in-Ok.ensures in
    let written = rw c.in-Ok-written.is at found.text in
    record {
      text = rw c.into_inner.ensures (rw (c.new-writer.ensures, c.new.ensures.items) at written.ok);
      same = found.finds.same;
      values = found.finds.values;
      first = found.programs.0;
      second = found.programs.1;
    }
