use Rattle.std.proofs.Common.{◌≡◌, ◌≤◌, ◌-◌, true, length}
use Rattle.bpf_btf.specs.Types.{place, are_whole, places}
use Rattle.bpf_btf.proofs.types.starts_of.Given as goal

abbrev pub invariant-loop-at : goal.invariant-loop-at
invariant-loop-at l = record {
  inside : l.at ≤ length l.types;
  place : l.at ≡ place l.types (length l.starts.items);
  starts : l.starts.items ≡ places l.types (length l.starts.items);
  whole : are_whole l.types (length l.starts.items) ≡ true;
}

abbrev pub decreases-loop-at : goal.decreases-loop-at
decreases-loop-at l = length l.types - l.at
