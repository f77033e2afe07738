use Rattle.std.proofs.Common.{◌≡◌, ◌<◌, ℕ, true}
use Rattle.bpf_load.specs.Targets.{lent, loaded_of}
use Rattle.bpfdb_jobs.specs.Programs.{same_map}
use Rattle.bpfdb_jobs.proofs.other_map.other_map.Given as goal

abbrev pub invariant-loop-number : goal.invariant-loop-number
invariant-loop-number l = (before : ℕ) → before < l.number
    → same_map (loaded_of l.first.cpu.program (lent l.first.object)) (loaded_of l.second.cpu.program (lent l.second.object)) before ≡ true
