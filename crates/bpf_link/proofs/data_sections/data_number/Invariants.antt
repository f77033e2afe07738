use Rattle.std.proofs.Common.{◌≡◌, ◌≤◌, nat_lt, take, count_by}
use Rattle.bpf_link.proofs.data_sections.data_number.Given as goal

abbrev pub invariant-loop-other : goal.invariant-loop-other
invariant-loop-other l = record { count : l.number ≡ count_by (λ other. nat_lt other l.section) (take l.other-index l.taken); small : l.number ≤ l.other-index }
