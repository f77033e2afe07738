use Rattle.bpf_machine.proofs.CallLaws.{law_zeros, law_forget, law_last}
use Rattle.bpf_machine.proofs.laws.calls_clear_their_frame.Goals as goal

pub returns : goal.returns
returns c = record {
  zeros = law_zeros;
  forget = law_forget;
  last = law_last;
}
