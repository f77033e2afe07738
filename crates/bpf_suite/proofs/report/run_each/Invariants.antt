use Rattle.std.proofs.Common.{◌≡◌, take}
use Rattle.bpf_suite.specs.Files.{with_shared}
use Rattle.bpf_suite.proofs.Reporting.{Reported}
use Rattle.bpf_suite.proofs.report.run_each.Given as goal

abbrev pub invariant-loop-sections : goal.invariant-loop-sections
invariant-loop-sections g l = record {
  shared : l.bench.sections ≡ l.fn.bench.sections;
  reported : Reported g.W.Write.contents l.fn.writer l.writer l.file (with_shared l.fn.bench.sections (take l.sections-index l.own)) l.first l.number l.passed;
}
