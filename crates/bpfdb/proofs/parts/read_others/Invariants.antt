use Rattle.bpf_load.specs.Targets.{contents}
use Rattle.bpfdb.specs.Parts.{GivesBelow}
use Rattle.bpfdb.proofs.parts.read_others.Given as goal

abbrev pub invariant-loop-n : goal.invariant-loop-n
invariant-loop-n g l = GivesBelow (g.F.Opener.bytes_at l.files) l.folder l.calls l.n (contents l.parts.items)
