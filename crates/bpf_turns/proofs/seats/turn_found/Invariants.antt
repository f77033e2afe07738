use Rattle.std.proofs.Common.{◌≡◌, take}
use Rattle.bpf_link.specs.Sections.{found, FoundBelow}
use Rattle.bpf_turns.specs.Seats.{is_turn}
use Rattle.bpf_turns.proofs.seats.turn_found.Given as goal

abbrev pub invariant-loop-i : goal.invariant-loop-i
invariant-loop-i l = record { value : l.found ≡ found (is_turn l.plan l.only l.name) (take l.i l.plan.symbols); within : FoundBelow l.i l.found }
