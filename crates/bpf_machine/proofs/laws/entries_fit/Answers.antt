use Rattle.bpf_machine.proofs.Fields.{law_entries}
use Rattle.bpf_machine.proofs.laws.entries_fit.Goals as goal

pub returns : goal.returns
returns c = law_entries
