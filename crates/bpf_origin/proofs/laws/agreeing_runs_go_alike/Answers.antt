use Rattle.bpf_origin.proofs.Paths.{law_paths}
use Rattle.bpf_origin.proofs.laws.agreeing_runs_go_alike.Goals as goal

pub returns : goal.returns
returns c = law_paths
