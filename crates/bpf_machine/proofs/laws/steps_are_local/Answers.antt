use Rattle.bpf_machine.proofs.StepLaws.{law_registers, law_bytes, law_rest, law_ends}
use Rattle.bpf_machine.proofs.laws.steps_are_local.Goals as goal

pub returns : goal.returns
returns c = record {
  registers = law_registers;
  bytes = law_bytes;
  rest = law_rest;
  ends = law_ends;
}
