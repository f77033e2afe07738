use Rattle.bpf_session.proofs.CommandLaws.{refusals-are-in-order}
use Rattle.bpf_session.proofs.laws.refusals_are_in_order.Goals as goal

pub returns : goal.returns
returns c = refusals-are-in-order
