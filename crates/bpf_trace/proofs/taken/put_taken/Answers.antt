use Rattle.std.proofs.Common.{refl}
use Rattle.counted_io.proofs.Appending.{WritesAfter-WritesAfter}
use Rattle.bpf_trace.proofs.Steps.{taken_line}
use Rattle.bpf_trace.proofs.taken.put_taken.Goals as goal

pub returns : goal.returns
returns g c = λ x t.
    let named = rw (c.from.ensures, c.program.ensures) at c.put_at-named.ensures in
    let two = WritesAfter-WritesAfter g.W.Write.contents _ _ _ _ _ _ _ _ _ c.put_decimal-counted.ensures c.put-parted.ensures refl in
    let three = WritesAfter-WritesAfter g.W.Write.contents _ _ _ _ _ _ _ _ _ two named refl in
    let four = WritesAfter-WritesAfter g.W.Write.contents _ _ _ _ _ _ _ _ _ three c.put_parts-told.ensures refl in
    let five = WritesAfter-WritesAfter g.W.Write.contents _ _ _ _ _ _ _ _ _ four c.put-placed.ensures refl in
    WritesAfter-WritesAfter g.W.Write.contents _ _ _ _ _ _ _ _ _ five c.put.ensures (taken_line c.args.number x c.args.cpu.now c.args.taken.now c.args.place.now t)
