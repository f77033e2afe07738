use Rattle.std.proofs.Common.{◌≡◌, ◌≤◌, ◌+◌, ◌++◌, drop}
use Rattle.bpf_suite.specs.Files.{sections, sections_behind}
use Rattle.bpf_suite.proofs.section.sections.Given as goal

abbrev pub invariant-loop-at : goal.invariant-loop-at
invariant-loop-at l = record {
  line : l.line ≤ l.at + 1;
  found : l.found.items ++ sections_behind l.line (drop l.at l.text) ≡ sections l.text;
}
