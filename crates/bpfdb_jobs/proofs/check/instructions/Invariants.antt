use Rattle.std.proofs.Common.{◌≡◌, ◌≤◌, count_by, is_some, take}
use Rattle.bpfdb_jobs.proofs.check.instructions.Given as goal

abbrev pub invariant-loop-slot : goal.invariant-loop-slot
invariant-loop-slot l = record {
  total : l.count ≡ count_by is_some (take l.slot l.program.insns);
  few : l.count ≤ l.slot;
}
