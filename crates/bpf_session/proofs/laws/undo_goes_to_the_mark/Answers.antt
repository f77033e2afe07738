use Rattle.bpf_session.proofs.BackwardLaws.{undo-goes-to-the-mark}
use Rattle.bpf_session.proofs.laws.undo_goes_to_the_mark.Goals as goal

pub returns : goal.returns
returns c = undo-goes-to-the-mark
