use Rattle.bpf_trace.proofs.TheRuns.{law_steps}
use Rattle.bpf_trace.proofs.laws.steps_are_the_runs.Goals as goal

pub returns : goal.returns
returns c = law_steps
