use Rattle.std.proofs.Common.{refl}
use Rattle.counted_io.proofs.Appending.{WritesAfter-WritesAfter}
use Rattle.bpf_trace.proofs.ending.put_fault.Goals as goal

pub returns-in-Access : goal.returns-in-Access
returns-in-Access g c =
    let after = WritesAfter-WritesAfter g.W.Write.contents in
    rw c.in-Access.is (after _ _ _ _ _ _ _ _ _ c.put-begun.ensures c.put_hexadecimal.ensures refl)

pub returns-in-Token : goal.returns-in-Token
returns-in-Token g c =
    let after = WritesAfter-WritesAfter g.W.Write.contents in
    rw c.in-Token.is (after _ _ _ _ _ _ _ _ _ c.put-begun-in-Token.ensures c.put_hexadecimal-in-Token.ensures refl)
