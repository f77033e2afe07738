use Rattle.std.proofs.Common.{◌≡◌, ◌≤◌, nat_lt, take, count_by}
use Rattle.bpf_link.proofs.patch.map_number.Given as goal

abbrev pub invariant-loop-other : goal.invariant-loop-other
invariant-loop-other l = record { count : l.number ≡ count_by (λ other. nat_lt other l.value) (take l.other-index l.maps); small : l.number ≤ l.other-index }
