use Rattle.std.proofs.Common.{◌≡◌, ◌≤◌, ◌<◌, ◌-◌, ℕ, length}
use Rattle.std.specs.Prelude.{IfSome}
use Rattle.bpf_btf.specs.CoreRelocations.{block_place}
use Rattle.bpf_lines.specs.LineInfo.{block_below}
use Rattle.bpf_lines.proofs.line_info.block_of.Given as goal

abbrev pub invariant-loop-at : goal.invariant-loop-at
invariant-loop-at l =
    (n : ℕ) × (l.at ≡ block_place l.listed n) × (l.found ≡ block_below l.strings l.listed l.name n) × (l.at ≤ length l.listed)
    × IfSome l.found (λ at. at < length l.listed)

abbrev pub decreases-loop-at : goal.decreases-loop-at
decreases-loop-at l = length l.listed - l.at
