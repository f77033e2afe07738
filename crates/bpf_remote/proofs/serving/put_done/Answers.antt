use Rattle.std.proofs.Common.{[]}
use Rattle.bpf_remote.proofs.serving.put_done.Goals as goal

pub returns-clause-manners : goal.returns-clause-manners
returns-clause-manners g c = rw c.saturating_sub.ensures at c.with_moves-talk.ensures

pub returns-clause-held : goal.returns-clause-held
returns-clause-held g c = c.append.ensures [] c.clear.ensures

pub returns-clause-written : goal.returns-clause-written
returns-clause-written g c = c.put_sent.ensures _ (c.append.ensures [] c.clear.ensures)
