use Rattle.bpf_origin.proofs.Alike.{law_writes}
use Rattle.bpf_origin.proofs.laws.moves_write_what_they_read.Goals as goal

pub returns : goal.returns
returns c = law_writes
