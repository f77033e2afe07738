use Rattle.std.proofs.Common.{◌∙◌}
use Rattle.bpf_diff.proofs.Writes.{same-is}
use Rattle.bpf_diff.proofs.follow.did_alike.Goals as goal

pub returns : goal.returns
returns c = λ x y t u. c.same_all.ensures ∙ same-is x y _ _ _ _ _ _ t u c.wrote_by-one.ensures c.wrote_by-other.ensures
