use Rattle.std.proofs.Common.{◌≡◌, drop}
use Rattle.bpf_link.specs.Stubs.{answer_of}
use Rattle.bpf_link.proofs.stubs.answer_of.Given as goal

abbrev pub invariant-loop-stub : goal.invariant-loop-stub
invariant-loop-stub l = answer_of l.stubs l.helper ≡ answer_of (drop l.stub-index l.stubs) l.helper
