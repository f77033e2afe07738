use Rattle.bpf_link.proofs.Untouched.{law}
use Rattle.bpf_link.proofs.laws.other_slots_stay.Goals as goal

pub returns : goal.returns
returns c = law
