use Rattle.std.proofs.Common.{◌≡◌, drop}
use Rattle.bpf_suite.specs.Tests.{section_for}
use Rattle.bpf_suite.proofs.test.section_in.Given as goal

abbrev pub invariant-loop-section : goal.invariant-loop-section
invariant-loop-section l = section_for l.part (drop l.section-index l.sections) ≡ section_for l.part l.sections
