use Rattle.std.proofs.Common.{◌≡◌, length}
use Rattle.bpf_link.specs.Blanked.{blanked_below}
use Rattle.bpf_link.proofs.pruned.blanked.Given as goal

abbrev pub invariant-loop-slot : goal.invariant-loop-slot
invariant-loop-slot l = record { value : l.words.items ≡ blanked_below l.reach l.initial.words.items l.slot; size : length l.words.items ≡ length l.initial.words.items }
