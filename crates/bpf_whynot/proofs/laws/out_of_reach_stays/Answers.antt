use Rattle.bpf_whynot.proofs.Staying.{out_of_reach_stays as stays}
use Rattle.bpf_whynot.proofs.laws.out_of_reach_stays.Goals as goal

pub returns : goal.returns
returns c = stays
