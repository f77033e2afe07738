use Rattle.std.proofs.lemmas.List.{append-nil}
use Rattle.counted_io.proofs.Appending.{Writes-none, Writes-text}
use Rattle.bpf_batch.proofs.answer.put_place_line.Goals as goal

pub returns : goal.returns
returns g c =
    let said = c.put_place-placed.ensures _ _ (Writes-none g.W.Write.contents c.args.writer.now _) in
    let ended = c.put-ended.ensures _ _ said in
    Writes-text g.W.Write.contents _ _ _ _ _ (c.flush_after.ensures _ _ ended) (append-nil _)
