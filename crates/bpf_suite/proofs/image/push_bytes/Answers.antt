use Rattle.std.proofs.Common.{sym, ◌∙◌}
use Rattle.bpf_suite.proofs.Images.{run_of-none}
use Rattle.bpf_suite.proofs.image.push_bytes.Goals as goal

pub returns-then-are_zeros : goal.returns-then-are_zeros
returns-then-are_zeros c = run_of-none c.args.runs.now.items c.args.address c.args.bytes.now (sym c.are_zeros.ensures ∙ c.if-are_zeros.true)
