use Rattle.std.proofs.Common.{refl}
use Rattle.counted_io.proofs.Appending.{WritesAfter-WritesAfter}
use Rattle.bpf_diff.proofs.Outcomes.{line-is}
use Rattle.bpf_diff.proofs.outputs.put_place.Goals as goal

pub returns : goal.returns
returns g c =
    let two = WritesAfter-WritesAfter g.W.Write.contents _ _ _ _ _ _ _ _ _ c.put_name-named.ensures c.put-begun.ensures refl in
    let three = WritesAfter-WritesAfter g.W.Write.contents _ _ _ _ _ _ _ _ _ two c.put_value-one.ensures refl in
    let four = WritesAfter-WritesAfter g.W.Write.contents _ _ _ _ _ _ _ _ _ three c.put-half.ensures refl in
    let five = WritesAfter-WritesAfter g.W.Write.contents _ _ _ _ _ _ _ _ _ four c.put_value-both.ensures refl in
    WritesAfter-WritesAfter g.W.Write.contents _ _ _ _ _ _ _ _ _ five c.put.ensures (line-is c.args.place c.args.values.0 c.args.values.1)
