-- The label's line, and then the instruction's.
use Rattle.std.proofs.Common.{codes, refl}
use Rattle.counted_io.proofs.Appending.{WritesAfter-WritesAfter}
use Rattle.bpf_text.proofs.write.disassembler.put_lines.Goals as goal

pub returns : goal.returns
returns g c =
    let after = WritesAfter-WritesAfter g.W.Write.contents in
    let written = after _ _ _ _ _ _ _ _ _ c.put_label_line-named.ensures c.put_insn-written.ensures refl in
    after _ _ _ _ _ _ _ (codes "\n") _ written c.put.ensures refl
