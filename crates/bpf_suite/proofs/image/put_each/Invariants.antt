use Rattle.std.proofs.Common.{◌≡◌, drop}
use Rattle.bpf_suite.specs.Images.{with_runs}
use Rattle.bpf_suite.proofs.image.put_each.Given as goal

abbrev pub invariant-loop-run : goal.invariant-loop-run
invariant-loop-run l = with_runs (drop l.run-index l.runs) l.cpu ≡ with_runs l.runs l.fn.cpu
