use Rattle.std.proofs.Common.{◌≡◌, length}
use Rattle.bpf_link.specs.Stubs.{answered_below}
use Rattle.bpf_link.proofs.stubs.answered.Given as goal

abbrev pub invariant-loop-slot : goal.invariant-loop-slot
invariant-loop-slot l = record { made : l.all.items ≡ answered_below l.stubs l.fn.words.items l.slot; size : length l.all.items ≡ length l.fn.words.items }
