use Rattle.std.proofs.Common.{◌≡◌, ◌≤◌, ◌+◌, ◌*◌, ◌-◌, length}
use Rattle.std.specs.Prelude.{IfSome}
use Rattle.bpf_btf.specs.Types.{place}
use Rattle.bpf_counts.specs.Walks.{maps_place}
use Rattle.bpf_counts.proofs.walk.walked.Given as goal

abbrev pub invariant-loop-at : goal.invariant-loop-at
invariant-loop-at l = record {
  inside : l.at ≤ length l.types;
  place : l.at ≡ place l.types l.walk.count;
  maps : l.walk.maps ≡ maps_place l.types l.strings l.walk.count;
  few : 12 * l.walk.count ≤ l.at;
  found : IfSome l.walk.maps (λ at. at + 12 ≤ length l.types);
}

abbrev pub decreases-loop-at : goal.decreases-loop-at
decreases-loop-at l = length l.types - l.at
