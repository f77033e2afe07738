use Rattle.std.proofs.Common.{◌≡◌, length}
use Rattle.bpf_entries.specs.Keeping.{kept_weight, fit}
use Rattle.bpf_journal.proofs.entries.Entries.trim.Given as goal

abbrev pub invariant-loop-self : goal.invariant-loop-self
invariant-loop-self l = fit kept_weight l.room l.self ≡ fit kept_weight l.room l.initial.self

abbrev pub decreases-loop-self : goal.decreases-loop-self
decreases-loop-self l = length l.self
