use Rattle.std.proofs.Common.{◌≡◌, ◌++◌, take, drop}
use Rattle.bpf_suite.specs.Files.{until_head}
use Rattle.bpf_suite.proofs.section.until_head.Given as goal

abbrev pub invariant-loop-at : goal.invariant-loop-at
invariant-loop-at l = take l.at l.text ++ until_head (drop l.at l.text) ≡ until_head l.text
