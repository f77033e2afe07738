use Rattle.std.proofs.Common.{◌+◌, refl}
use Rattle.counted_io.proofs.Appending.{WritesAfter-WritesAfter}
use Rattle.bpf_diff.proofs.against.put_otherwise.Goals as goal

pub returns-in-None : goal.returns-in-None
returns-in-None g c = λ before are.
    rw c.in-None.is
    (WritesAfter-WritesAfter g.W.Write.contents _ _ _ _ _ _ _ _ _ c.put_heading-headed.ensures (c.put_registers_here.ensures (c.args.halt.now.steps + 1)) refl)

pub returns-in-Some : goal.returns-in-Some
returns-in-Some g c = λ before are.
    let two = WritesAfter-WritesAfter g.W.Write.contents _ _ _ _ _ _ _ _ _ c.put_heading-begun.ensures
    (c.put_registers_here-half.ensures (c.args.halt.now.steps + 1)) refl in
    let three = WritesAfter-WritesAfter g.W.Write.contents _ _ _ _ _ _ _ _ _ two c.put_there-both.ensures refl in
    rw c.in-Some.is
    (WritesAfter-WritesAfter g.W.Write.contents _ _ _ _ _ _ _ _ _ three (c.put_differences.ensures before are) refl)
