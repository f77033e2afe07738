use Rattle.std.proofs.Common.{◌∙◌, ap}
use Rattle.bpf_entries.specs.Status.{has_ended}
use Rattle.bpf_diff.proofs.against.put_behind_end.Goals as goal

pub returns-in-None-clause-text : goal.returns-in-None-clause-text
returns-in-None-clause-text g c = rw c.in-None.is c.put_same.ensures

pub returns-in-None-clause-told : goal.returns-in-None-clause-told
returns-in-None-clause-told g c = rw c.in-None.is (c.has_ended.ensures ∙ ap has_ended c.status.ensures)

pub returns-in-Some-clause-text : goal.returns-in-Some-clause-text
returns-in-Some-clause-text g c = rw c.in-Some.is c.put_more.ensures
