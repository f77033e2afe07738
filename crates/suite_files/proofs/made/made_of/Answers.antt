use Rattle.suite_files.specs.Refused.{Unloaded, Untabled}
use Rattle.suite_files.proofs.made.made_of.Goals as goal

pub returns-in-Err-clause-err : goal.returns-in-Err-clause-err
returns-in-Err-clause-err c = Unloaded c.in-Err.fault c.in-Err.ensures.err c.kept_object.ensures

pub returns-in-Err-table_of-clause-err : goal.returns-in-Err-table_of-clause-err
returns-in-Err-table_of-clause-err c = Untabled c.in-Ok.loaded c.in-Ok.ensures.ok c.in-Err-table_of.ensures.err
