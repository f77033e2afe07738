use Rattle.bpf_entries.proofs.laws.a_ring_is_of_one_list.Goals as goal
use Rattle.bpf_entries.proofs.Rings.{one_list}

pub returns : goal.returns
returns c = one_list
