use Rattle.std.proofs.Common.{drop}
use Rattle.bpfdb_script.proofs.Telling.{Telling}
use Rattle.bpf_trace.specs.Profiles.{count_lines}
use Rattle.bpf_trace.proofs.profile.Profile.put.Given as goal

abbrev pub invariant-loop-slot : goal.invariant-loop-slot
invariant-loop-slot g l = Telling g.W.Write.contents l.fn.writer l.fn.so_far l.writer l.told
    (count_lines l.texts l.program l.slot (drop l.slot l.counts)) (count_lines l.texts l.program 0 l.counts)
