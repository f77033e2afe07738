-- The two bytes are numbers.
use Rattle.bpfdb_script.specs.Texts.{text_of_change}
use Rattle.bpfdb_script.proofs.history.put_change.Goals as goal

pub returns : goal.returns
unfolding text_of_change
returns g c = rw (c.from-before.ensures, c.from-after.ensures) at c.put_all.ensures
