use Rattle.std.proofs.Common.{append_assoc}
use Rattle.counted_io.proofs.Appending.{Writes-none}
use Rattle.bpf_questions.proofs.obeying.write_strict.Goals as goal

pub returns : goal.returns
returns g c =
    let counted = c.put_decimal-counted.ensures _ _ (Writes-none g.W.Write.contents c.args.writer.now _) in
    let named = c.put-named.ensures _ _ counted in
    let placed = c.put_place-placed.ensures _ _ named in
    simp append_assoc (simp append_assoc at (c.put.ensures _ _ placed))
