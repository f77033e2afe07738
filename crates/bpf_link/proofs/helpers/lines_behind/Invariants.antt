use Rattle.std.proofs.Common.{◌≡◌}
use Rattle.bpf_link.specs.Helpers.{lines_behind}
use Rattle.bpf_link.proofs.helpers.lines_behind.Given as goal

abbrev pub invariant-loop : goal.invariant-loop
invariant-loop l = l.rest ≡ lines_behind l.text l.counter
