use Rattle.std.proofs.Common.{◌≡◌, ◌+◌, ◌-◌}
use Rattle.bpf_origin.specs.Places.{bytes_from}
use Rattle.bpf_origin.specs.Wanted.{want_all}
use Rattle.bpf_origin.proofs.wanted.Wanted.want_run.Given as goal

abbrev pub invariant-loop-k : goal.invariant-loop-k
invariant-loop-k l = want_all l.fn.self (bytes_from l.address l.len) ≡ want_all l.self (bytes_from (l.address + l.k) (l.len - l.k))
