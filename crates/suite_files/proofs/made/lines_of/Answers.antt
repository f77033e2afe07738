use Rattle.suite_files.proofs.made.lines_of.Goals as goal

pub returns-in-Ok-clause-ok : goal.returns-in-Ok-clause-ok
returns-in-Ok-clause-ok c = rw c.as_slice-own.ensures.value at c.in-Ok.ensures.ok

pub returns-in-Err-clause-err : goal.returns-in-Err-clause-err
returns-in-Err-clause-err c = record {
  refused = c.in-Err.refused;
  why = rw c.as_slice-own.ensures.value at c.in-Err.ensures.err;
  kept = c.kept_lines.ensures;
}
