use Rattle.bpf_lines_laws.proofs.Tables.{law}
use Rattle.bpf_lines_laws.proofs.laws.lines_are_the_slots.Goals as goal

pub returns : goal.returns
returns c = law
