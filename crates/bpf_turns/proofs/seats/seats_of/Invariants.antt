use Rattle.std.proofs.Common.{◌≡◌, [], map}
use Rattle.std.specs.Prelude.{Ok}
use Rattle.bpf_link.specs.Plans.{steps}
use Rattle.bpf_turns.specs.Seats.{with_seat}
use Rattle.bpf_turns.proofs.seats.seats_of.Given as goal

abbrev pub invariant-loop-k : goal.invariant-loop-k
invariant-loop-k l = steps (with_seat l.plan l.only (map (λ text. text.now) l.texts)) [] l.k ≡ Ok l.seats.items
