use Rattle.std.proofs.Common.{◌++◌, ℕ, ap, codes, decimal, refl}
use Rattle.counted_io.proofs.Appending.{WritesAfter-WritesAfter}
use Rattle.bpf_cover.specs.Texts.{slot_text}
use Rattle.bpf_diff.specs.Writers.{writer_text}
use Rattle.bpf_diff.proofs.TraceLines.{not_zero}
use Rattle.bpf_diff.proofs.told_writers.put_writer.Goals as goal

pub returns-then-by-eq0 : goal.returns-then-by-eq0
unfolding writer_text
returns-then-by-eq0 g c = rw c.if-by-eq0.true c.put.ensures

pub returns : goal.returns
unfolding writer_text
returns g c =
    let two = WritesAfter-WritesAfter g.W.Write.contents _ _ _ _ _ _ _ _ _ c.put-begun.ensures c.put_decimal-counted.ensures refl in
    let three = WritesAfter-WritesAfter g.W.Write.contents _ _ _ _ _ _ _ _ _ two c.put-parted.ensures refl in
    let four = WritesAfter-WritesAfter g.W.Write.contents _ _ _ _ _ _ _ _ _ three c.put_slot-placed.ensures
    (ap (λ (n : ℕ). codes "; here by step " ++ decimal c.args.by.step ++ codes ", " ++ slot_text c.args.program.now n) c.from.ensures) in
    rw (not_zero c.args.by.step c.if-by-eq0.false)
    (WritesAfter-WritesAfter g.W.Write.contents _ _ _ _ _ _ _ _ _ four c.put-2.ensures refl)
