use Rattle.bpf_machine.proofs.CallLaws.{law_pointer, law_calls, law_returns}
use Rattle.bpf_machine.proofs.laws.returns_give_back.Goals as goal

pub returns : goal.returns
returns c = record {
  pointer = law_pointer;
  calls = law_calls;
  returns = law_returns;
}
