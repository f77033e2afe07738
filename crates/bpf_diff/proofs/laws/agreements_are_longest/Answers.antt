use Rattle.bpf_diff.proofs.Longest.{law_longest}
use Rattle.bpf_diff.proofs.laws.agreements_are_longest.Goals as goal

pub returns : goal.returns
returns c = law_longest
