use Rattle.bpf_session.proofs.BackwardLaws.{the-latest-is-found}
use Rattle.bpf_session.proofs.laws.the_latest_is_found.Goals as goal

pub returns : goal.returns
returns c = the-latest-is-found
