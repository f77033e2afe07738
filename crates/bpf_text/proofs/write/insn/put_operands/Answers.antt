-- One operand after the other, each behind what stands before it.
use Rattle.std.proofs.Common.{refl, ap, sym}
use Rattle.bpf_text.specs.Operands.{operands_text}
use Rattle.counted_io.proofs.Appending.{WritesAfter-WritesAfter}
use Rattle.bpf_text.proofs.write.insn.put_operands.Goals as goal

pub returns-in-One : goal.returns-in-One
returns-in-One g c =
    WritesAfter-WritesAfter g.W.Write.contents _ _ _ _ _ _ _ _ _ c.put-begun.ensures c.put_operand.ensures
    (sym (ap operands_text c.in-One.is))

pub returns-in-Two : goal.returns-in-Two
returns-in-Two g c =
    let after = WritesAfter-WritesAfter g.W.Write.contents in
    let one = after _ _ _ _ _ _ _ _ _ c.put-begun-in-Two.ensures c.put_operand-one.ensures refl in
    let two = after _ _ _ _ _ _ _ _ _ c.put-parted.ensures c.put_operand-in-Two.ensures refl in
    after _ _ _ _ _ _ _ _ _ one two (sym (ap operands_text c.in-Two.is))

pub returns-in-Three : goal.returns-in-Three
returns-in-Three g c =
    let after = WritesAfter-WritesAfter g.W.Write.contents in
    let one = after _ _ _ _ _ _ _ _ _ c.put-begun-in-Three.ensures c.put_operand-one-in-Three.ensures refl in
    let two = after _ _ _ _ _ _ _ _ _ c.put-parted-in-Three.ensures c.put_operand-two.ensures refl in
    let three = after _ _ _ _ _ _ _ _ _ c.put-parted_again.ensures c.put_operand-in-Three.ensures refl in
    after _ _ _ _ _ _ _ _ _ (after _ _ _ _ _ _ _ _ _ one two refl) three (sym (ap operands_text c.in-Three.is))
