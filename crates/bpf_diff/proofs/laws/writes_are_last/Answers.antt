use Rattle.bpf_diff.proofs.Latest.{law_latest}
use Rattle.bpf_diff.proofs.laws.writes_are_last.Goals as goal

pub returns : goal.returns
returns c = law_latest
