use Rattle.bpf_session.proofs.ForwardLaws.{breakpoints-stop}
use Rattle.bpf_session.proofs.laws.breakpoints_stop.Goals as goal

pub returns : goal.returns
returns c = breakpoints-stop
