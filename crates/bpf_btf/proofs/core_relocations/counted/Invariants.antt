use Rattle.std.proofs.Common.{◌≡◌, ◌≤◌, ◌-◌, ℕ, length}
use Rattle.bpf_btf.specs.CoreRelocations.{block_place, relocations_below}
use Rattle.bpf_btf.proofs.core_relocations.counted.Given as goal

abbrev pub invariant-loop-at : goal.invariant-loop-at
invariant-loop-at l = (n : ℕ) × (l.at ≡ block_place l.listed n) × (l.sum ≡ relocations_below l.strings l.listed l.name n) × (l.at ≤ length l.listed)

abbrev pub decreases-loop-at : goal.decreases-loop-at
decreases-loop-at l = length l.listed - l.at
