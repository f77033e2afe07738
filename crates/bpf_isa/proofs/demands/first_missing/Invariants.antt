use Rattle.std.proofs.Common.{◌<◌, ◌≤◌, ◌-◌, ℕ, List, Option, length, get_or}
use Rattle.bpf_isa.specs.declared.demands.Lengths.{Lengths}
use Rattle.bpf_isa.specs.declared.fault.LoadFault.{LoadFault}
use Rattle.bpf_isa.specs.Scaffolding.Demands.{AreClear, AreDemands, Meet}
use Rattle.bpf_isa.proofs.demands.first_missing.Given as goal

abbrev pub invariant-loop-from : goal.invariant-loop-from
invariant-loop-from l = record {
  order : l.from ≤ l.to;
  inside : l.to ≤ length l.wanted;
  clear : (bytes : List ℕ) (fault : Option LoadFault) → AreDemands bytes l.wanted fault → AreClear bytes l.maps l.from;
  missing : l.to < length l.wanted → (d : Lengths) → Meet l.maps (get_or l.wanted l.to d).bytes → ⊥;
}

abbrev pub decreases-loop-from : goal.decreases-loop-from
decreases-loop-from l = l.to - l.from
