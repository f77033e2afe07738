use Rattle.bpfdb.specs.Contexts.{OfContext, OfOther}
use Rattle.bpfdb.proofs.contexts.contexts_of.Goals as goal

pub returns-in-Err-clause-err : goal.returns-in-Err-clause-err
returns-in-Err-clause-err c = OfContext c.in-Err.ensures.err c.name_or_empty-path.ensures

pub returns-in-Err-choose-clause-err : goal.returns-in-Err-choose-clause-err
returns-in-Err-choose-clause-err c = OfOther c.in-Ok.context c.in-Ok.ensures.ok c.in-Err-choose.ensures.err c.name_or_empty-path-in-Err-choose.ensures
