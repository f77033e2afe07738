use Rattle.bpf_session.proofs.ForwardLaws.{the-first-reason-stops}
use Rattle.bpf_session.proofs.laws.the_first_reason_stops.Goals as goal

pub returns : goal.returns
returns c = the-first-reason-stops
