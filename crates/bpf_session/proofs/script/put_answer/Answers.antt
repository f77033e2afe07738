use Rattle.counted_io.proofs.Appending.{Writes-none}
use Rattle.bpf_session.proofs.script.put_answer.Goals as goal

pub returns-in-Err : goal.returns-in-Err
returns-in-Err g c = λ h past. rw c.in-Err.is (c.put_refusal.ensures _ _ (Writes-none g.W.Write.contents c.args.writer.now _))
