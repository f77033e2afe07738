use Rattle.std.proofs.Common.{◌≡◌}
use Rattle.bpf_load.specs.Notes.{is_among}
use Rattle.bpf_load.proofs.notes.Notes.differs.Given as goal

abbrev pub invariant-loop-k : goal.invariant-loop-k
invariant-loop-k l = l.found ≡ is_among l.self l.k
