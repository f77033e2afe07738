use Rattle.bpf_session.proofs.ForwardLaws.{calls-run-as-one}
use Rattle.bpf_session.proofs.laws.calls_run_as_one.Goals as goal

pub returns : goal.returns
returns c = calls-run-as-one
