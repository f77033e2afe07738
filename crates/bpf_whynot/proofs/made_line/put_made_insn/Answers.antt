use Rattle.std.proofs.Common.{refl}
use Rattle.counted_io.proofs.Appending.{WritesAfter-WritesAfter}
use Rattle.bpf_whynot.proofs.made_line.put_made_insn.Goals as goal

pub returns : goal.returns
returns g c = WritesAfter-WritesAfter g.W.Write.contents _ _ _ _ _ _ _ _ _ c.put_made_head-headed.ensures c.put_made_tail.ensures refl
