use Rattle.bpfdb_jobs.proofs.origin.arrive.Goals as goal

pub returns-in-Some-clause-ok : goal.returns-in-Some-clause-ok
returns-in-Some-clause-ok c = c.arrive_by.ensures.ok c.args.is_strict c.args.known c.requires.known
