use Rattle.std.proofs.Common.{◌≡◌, ◌<◌, ℕ, length, get_or}
use Rattle.bpf_isa.specs.declared.demands.Lengths.{Lengths}
use Rattle.bpf_isa.specs.Scaffolding.Demands.{AreWanted, AreWantedAt}
use Rattle.bpf_isa.proofs.demands.push_wanted.Given as goal

abbrev pub invariant-loop-slot : goal.invariant-loop-slot
invariant-loop-slot l = record {
  size : length l.wanted.items ≡ l.slot;
  next : AreWanted l.bytes l.slot l.lengths.bytes;
  each : (p : ℕ) (d : Lengths) → p < l.slot → AreWantedAt l.bytes p (get_or l.wanted.items p d).bytes;
}
