use Rattle.bpf_isa.proofs.Pieces.{pieces_are_the_bytes}
use Rattle.bpf_isa.proofs.laws.cut_into_pieces.Goals as goal

pub returns : goal.returns
returns c = pieces_are_the_bytes
