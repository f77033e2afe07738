use Rattle.std.proofs.Common.{◌≡◌, drop}
use Rattle.std.specs.Prelude.{map}
use Rattle.bpf_agent.specs.Conditions.{code_at}
use Rattle.bpf_agent.proofs.Rows.{shown}
use Rattle.bpf_agent.proofs.conditions.Conditions.code_at.Given as goal

abbrev pub invariant-loop-row : goal.invariant-loop-row
invariant-loop-row l = code_at l.slot l.self ≡ code_at l.slot (map shown (drop l.row-index l.row-items))
