-- The text after none.
use Rattle.counted_io.proofs.Appending.{Writes-none}
use Rattle.bpf_text.proofs.write.insn.write_insn.Goals as goal

pub returns : goal.returns
returns g c = c.put_insn.ensures _ _ (Writes-none g.W.Write.contents c.args.writer.now _)
