use Rattle.std.proofs.Common.{◌≡◌, ◌≤◌, ◌-◌, ℕ, length}
use Rattle.bpf_btf.specs.CoreRelocations.{block_place}
use Rattle.bpf_join.specs.Gathered.{gathered}
use Rattle.bpf_turns.specs.Blocks.{records_at, rest_at}
use Rattle.bpf_turns.proofs.blocks.moved_blocks.Given as goal

abbrev pub invariant-loop-at : goal.invariant-loop-at
invariant-loop-at l =
    (n : ℕ) × (l.at ≡ block_place l.listed n) × (l.at ≤ length l.listed)
    × (l.records.items ≡ gathered (records_at l.object l.strings l.calls l.listed) n)
    × (l.rest.items ≡ gathered (rest_at l.object l.strings l.calls l.listed) n)

abbrev pub decreases-loop-at : goal.decreases-loop-at
decreases-loop-at l = length l.listed - l.at
