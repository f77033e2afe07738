use Rattle.bpf_session.proofs.ForwardLaws.{watches-stop}
use Rattle.bpf_session.proofs.laws.watches_stop.Goals as goal

pub returns : goal.returns
returns c = watches-stop
