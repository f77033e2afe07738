use Rattle.counted_io.proofs.Appending.{Writes-none}
use Rattle.bpf_session.proofs.session.Session.write_reply.Goals as goal

pub returns : goal.returns
returns g c = λ h past. c.put_reply.ensures h past _ _ (Writes-none g.W.Write.contents c.args.writer.now _)
