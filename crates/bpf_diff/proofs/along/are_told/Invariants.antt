use Rattle.std.proofs.Common.{◌≡◌, ◌-◌, take}
use Rattle.bpf_diff.specs.Against.{are_told, entries_of}
use Rattle.bpf_diff.proofs.along.are_told.Given as goal

abbrev pub invariant-loop-entry : goal.invariant-loop-entry
invariant-loop-entry l = are_told l.cpu l.entry (take (12 - l.entry) l.words) ≡ are_told l.cpu 0 (entries_of l.line)
