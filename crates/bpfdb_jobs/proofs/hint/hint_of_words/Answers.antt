use Rattle.std.proofs.Common.{refl}
use Rattle.bpfdb_jobs.specs.Hints.{Accepted, Looks}
use Rattle.bpfdb_jobs.proofs.hint.hint_of_words.Goals as goal

pub returns-in-Some : goal.returns-in-Some
returns-in-Some c = Looks c.in-Some.fault c.requires.checks c.requires.words c.in-Some.ensures.some c.look_after.ensures

pub returns-in-None : goal.returns-in-None
returns-in-None c = Accepted c.in-None.ensures.none.0 c.in-None.ensures.none.1 refl
