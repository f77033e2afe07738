use Rattle.std.proofs.Common.{◌≡◌, [], Ok}
use Rattle.bpf_link.specs.Plans.{steps}
use Rattle.bpf_join.specs.Records.{typed, with_record}
use Rattle.bpf_join.proofs.records.typed_records.Given as goal

abbrev pub invariant-loop-k : goal.invariant-loop-k
invariant-loop-k l = steps (with_record (typed l.plan l.types) l.places) [] l.k ≡ Ok l.records.items
