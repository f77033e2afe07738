use Rattle.std.proofs.Common.{◌∙◌}
use Rattle.bpf_link.proofs.Zeros.{zeros}
use Rattle.bpf_link.proofs.setup.is_zero.Goals as goal

pub returns-then-first-eq0 : goal.returns-then-first-eq0
returns-then-first-eq0 c = c.eq.ensures ∙ zeros c.args.image.now c.in-len1-up.len_at_least c.if-first-eq0.true
