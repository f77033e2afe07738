use Rattle.std.proofs.Common.{◌≡◌}
use Rattle.bpf_load.specs.Notes.{has_kind}
use Rattle.bpf_load.proofs.notes.has_kind.Given as goal

abbrev pub invariant-loop-k : goal.invariant-loop-k
invariant-loop-k l = l.found ≡ has_kind l.records l.kind l.k
