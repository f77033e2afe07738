use Rattle.std.proofs.Common.{length}
use Rattle.bpf_whynot.specs.Flows.{behind, jump, unless}
use Rattle.bpf_whynot.specs.Tables.{is_in}
use Rattle.bpf_whynot.proofs.Walking.{HasLooked}
use Rattle.bpf_whynot.proofs.walk.come_back.Given as goal

abbrev pub invariant-loop-k : goal.invariant-loop-k
invariant-loop-k l = HasLooked (unless l.but (behind l.program l.above)) (unless l.but (jump l.program)) (is_in l.seeds) (length l.program.insns) l.k l.walk
