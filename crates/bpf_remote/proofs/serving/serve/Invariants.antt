use Rattle.std.proofs.Common.{◌-◌, ◌^◌}
use Rattle.bpf_remote.proofs.Turns.{Serving}
use Rattle.bpf_remote.proofs.serving.serve.Given as goal

abbrev pub invariant-items : goal.invariant-items
invariant-items g l =
    Serving g.K.Keeper.holds g.K.Keeper.refused g.K.Keeper.room g.R.Read.remaining g.W.Write.contents l.fn.gdb l.fn.session l.session l.talk l.fn.reader l.reader l.fn.writer l.writer

-- the reads that are left
abbrev pub decreases-items : goal.decreases-items
decreases-items g l = 2 ^ 64 - 1 - l.reader.reads
