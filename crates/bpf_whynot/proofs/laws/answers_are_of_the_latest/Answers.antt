use Rattle.bpf_whynot.proofs.Latest.{answers_are_latest}
use Rattle.bpf_whynot.proofs.laws.answers_are_of_the_latest.Goals as goal

pub returns : goal.returns
returns c = answers_are_latest
