use Rattle.std.proofs.Common.{◌≡◌, take}
use Rattle.std.specs.Prelude.{filter}
use Rattle.bpf_suite.specs.Benches.{shares_program}
use Rattle.bpf_suite.specs.Covers.{IsFoundBy}
use Rattle.bpf_suite.specs.Files.{with_shared}
use Rattle.bpf_suite.proofs.cover.cover_shared.Given as goal

abbrev pub invariant-loop-sections : goal.invariant-loop-sections
invariant-loop-sections l = record {
  shared : l.bench.sections ≡ l.fn.bench.sections;
  found : IsFoundBy (with_shared l.fn.bench.sections (filter shares_program (take l.sections-index l.own))) l.found;
}
