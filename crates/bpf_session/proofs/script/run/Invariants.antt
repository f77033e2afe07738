use Rattle.std.proofs.Common.{◌-◌, ◌^◌}
use Rattle.bpf_session.proofs.Running.{Running}
use Rattle.bpf_session.proofs.script.run.Given as goal

abbrev pub invariant-lines : goal.invariant-lines
invariant-lines g l = Running g.K.Keeper.holds g.K.Keeper.refused g.K.Keeper.room g.R.Read.remaining g.W.Write.contents l.fn.session l.session l.fn.reader l.reader l.fn.writer l.writer

-- the reads that are left
abbrev pub decreases-lines : goal.decreases-lines
decreases-lines g l = 2 ^ 64 - 1 - l.reader.reads
