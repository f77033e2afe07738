use Rattle.bpf_entries.proofs.laws.a_ring_is_cut_from_the_back.Goals as goal
use Rattle.bpf_entries.proofs.Rings.{ends_in_weight, ends_in_text, begins_with_oldest}

pub returns-clause-weight : goal.returns-clause-weight
returns-clause-weight c = ends_in_weight

pub returns-clause-text : goal.returns-clause-text
returns-clause-text c = ends_in_text

pub returns-clause-oldest : goal.returns-clause-oldest
returns-clause-oldest c = begins_with_oldest
