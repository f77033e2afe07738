use Rattle.std.proofs.Common.{◌<◌, ◌≤◌, ℕ, get_or}
use Rattle.bpf_isa.specs.Scaffolding.Demands.{bytes_in}
use Rattle.bpf_isa.proofs.demands.Lengths.are_met.Given as goal

abbrev pub invariant-loop-map : goal.invariant-loop-map
invariant-loop-map l = (m : ℕ) → m < l.map → get_or l.self.bytes m 0 ≤ bytes_in l.maps m
