use Rattle.bpf_load.specs.Targets.{contents, texts}
use Rattle.bpfdb.specs.Files.{GivesFirst}
use Rattle.bpfdb.proofs.files.read_each.Given as goal

abbrev pub invariant-loop-k : goal.invariant-loop-k
invariant-loop-k g l = GivesFirst (g.F.Opener.bytes_at l.files) l.kind (texts l.paths) l.k (contents l.all.items)
