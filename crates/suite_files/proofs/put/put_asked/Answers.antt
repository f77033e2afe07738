use Rattle.std.proofs.Common.{inr}
use Rattle.suite_files.proofs.put.put_asked.Goals as goal

pub returns-in-Ok-program_put-clause-ok : goal.returns-in-Ok-program_put-clause-ok
returns-in-Ok-program_put-clause-ok g c = record {
  asked = c.args.asked.now;
  asks = c.requires.asked;
  made = c.in-Ok.made;
  is_made = c.in-Ok.ensures.ok;
  is_put = c.in-Ok-program_put.ensures;
}

pub returns-clause-err : goal.returns-clause-err
returns-clause-err g c = inr (inr (c.args.asked.now, c.requires.asked, c.in-Err.ensures.err))
