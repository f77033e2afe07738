use Rattle.bpf_link_laws.proofs.Linking.{own_stay}
use Rattle.bpf_link_laws.proofs.join_laws.own_slots_stay.Goals as goal

pub returns : goal.returns
returns c = own_stay
