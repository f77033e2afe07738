use Rattle.std.proofs.Common.{refl}
use Rattle.counted_io.proofs.Appending.{WritesAfter-WritesAfter}
use Rattle.bpf_origin.proofs.compared.put_operands_of.Goals as goal

pub returns-in-JumpIf : goal.returns-in-JumpIf
returns-in-JumpIf g c = rw c.in-JumpIf.is (WritesAfter-WritesAfter g.W.Write.contents _ _ _ _ _ _ _ _ _ c.put_compared-told.ensures c.put_source.ensures refl)
