use Rattle.std.proofs.Common.{◌≡◌, ◌≤◌}
use Rattle.bpf_turns.specs.Calls.{slots_before}
use Rattle.bpf_turns.proofs.calls.slots_before.Given as goal

abbrev pub invariant-loop-i : goal.invariant-loop-i
invariant-loop-i l = record { value : l.before ≡ slots_before l.object l.seats l.i; small : l.before ≤ 65536 }
