use Rattle.counted_io.proofs.Appending.{Writes-none}
use Rattle.bpfdb_jobs.specs.Programs.{check_line}
use Rattle.bpfdb_jobs.proofs.check.put_size.Goals as goal

pub returns : goal.returns
unfolding check_line
returns g c =
    rw (c.instructions-instructions.ensures, c.len-slots.ensures) at
    (c.put_all.ensures _ _ (Writes-none g.W.Write.contents c.args.writer.now _))
