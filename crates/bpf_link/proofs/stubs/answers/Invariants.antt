use Rattle.std.proofs.Common.{◌≡◌, ◌≤◌}
use Rattle.bpf_link.specs.Stubs.{answers_below}
use Rattle.bpf_link.proofs.stubs.answers.Given as goal

abbrev pub invariant-loop-slot : goal.invariant-loop-slot
invariant-loop-slot l = record { made : l.count ≡ answers_below l.stubs l.words l.slot; few : l.count ≤ l.slot }
