use Rattle.std.proofs.Common.{◌≡◌, ◌++◌, drop}
use Rattle.bpf_suite.specs.Files.{named}
use Rattle.bpf_suite.proofs.suite.named.Given as goal

abbrev pub invariant-loop-at : goal.invariant-loop-at
invariant-loop-at l = l.found.items ++ named (drop l.at l.sections) ≡ named l.sections
