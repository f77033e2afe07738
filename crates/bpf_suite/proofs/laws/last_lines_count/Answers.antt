use Rattle.bpf_suite.proofs.RegValues.{last-lines-count}
use Rattle.bpf_suite.proofs.laws.last_lines_count.Goals as goal

pub returns : goal.returns
returns c = last-lines-count
