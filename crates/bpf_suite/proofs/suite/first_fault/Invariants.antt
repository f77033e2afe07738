use Rattle.std.proofs.Common.{◌≡◌, ◌≤◌, [], drop}
use Rattle.std.specs.List.{slice_range}
use Rattle.bpf_suite.specs.Faults.{first_fault}
use Rattle.bpf_suite.specs.Files.{until_name}
use Rattle.bpf_suite.proofs.suite.first_fault.Given as goal

abbrev pub invariant-loop-at : goal.invariant-loop-at
invariant-loop-at l = record {
  start : l.start ≤ l.at;
  rest : first_fault (until_name l.sections) (slice_range l.sections l.start l.at) (drop l.at l.sections)
      ≡ first_fault (until_name l.sections) [] l.sections;
}
