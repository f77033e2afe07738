use Rattle.counted_io.proofs.Appending.{Writes-none}
use Rattle.bpf_questions.proofs.message.put_json.Goals as goal

pub returns : goal.returns
returns g c = rw (c.as_bytes.ensures.value, c.kind_name.ensures) at (c.put_all.ensures _ _ (Writes-none g.W.Write.contents c.args.writer.now _))
