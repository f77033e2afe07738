use Rattle.std.proofs.Common.{◌≡◌, ◌≤◌, [], length, Ok}
use Rattle.bpf_link.specs.Plans.{steps}
use Rattle.bpf_join.specs.Records.{with_map_of}
use Rattle.bpf_join.proofs.records.map_places.Given as goal

abbrev pub invariant-loop-i : goal.invariant-loop-i
invariant-loop-i l = record { made : steps (with_map_of l.plan) [] l.i ≡ Ok l.places.items; short : length l.places.items ≤ 1024 }
