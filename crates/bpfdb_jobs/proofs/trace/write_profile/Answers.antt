use Rattle.counted_io.proofs.Appending.{Writes-none}
use Rattle.bpf_trace.proofs.Telling.{told-ok, told-lost}
use Rattle.bpfdb_jobs.proofs.Telling.{profile-is}
use Rattle.bpfdb_jobs.proofs.trace.write_profile.Goals as goal

pub returns-in-Ok-put_profile-clause-told : goal.returns-in-Ok-put_profile-clause-told
returns-in-Ok-put_profile-clause-told g c =
    told-ok g.W.Write.contents _ _ _ _ _ _ _ (c.put_profile.ensures _ _ (Writes-none g.W.Write.contents c.args.writer.now _)) c.in-Ok-put_profile.is
    (profile-is c.args.places c.args.limit _ _ _ c.in-Ok.ensures.ok (rw c.in-Ok.is at c.run.ensures.next))

pub returns-clause-told : goal.returns-clause-told
returns-clause-told g c =
    told-lost g.W.Write.contents _ _ _ _ _ _ (c.put_profile.ensures _ _ (Writes-none g.W.Write.contents c.args.writer.now _)) c.in-Err-put_profile.is
    (profile-is c.args.places c.args.limit _ _ _ c.in-Ok.ensures.ok (rw c.in-Ok.is at c.run.ensures.next))
