use Rattle.std.proofs.Common.{◌∙◌, sym}
use Rattle.bpf_whynot.proofs.made_line.put_made.Goals as goal

pub returns-in-Some : goal.returns-in-Some
returns-in-Some g c = rw (sym c.insn_at.ensures ∙ c.in-Some.is) c.put_made_insn.ensures
