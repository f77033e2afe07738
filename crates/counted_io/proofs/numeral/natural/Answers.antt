use Rattle.counted_io.proofs.Naturals.{reads_naturals}
use Rattle.counted_io.proofs.numeral.natural.Goals as goal

pub returns-in-Some-clause-grammar : goal.returns-in-Some-clause-grammar
returns-in-Some-clause-grammar c = reads_naturals c.args.text.now

pub returns-in-None-clause-grammar : goal.returns-in-None-clause-grammar
returns-in-None-clause-grammar c = reads_naturals c.args.text.now
