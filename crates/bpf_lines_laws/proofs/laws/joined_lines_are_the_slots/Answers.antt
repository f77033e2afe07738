use Rattle.bpf_lines_laws.proofs.Tables.{joined_law}
use Rattle.bpf_lines_laws.proofs.laws.joined_lines_are_the_slots.Goals as goal

pub returns : goal.returns
returns c = joined_law
