use Rattle.std.proofs.Common.{◌≡◌, length}
use Rattle.bpf_link.specs.Pruned.{all_tried}
use Rattle.bpf_link.proofs.pruned.try_all.Given as goal

abbrev pub invariant-loop-i : goal.invariant-loop-i
invariant-loop-i l = record { value : l.words ≡ all_tried l.plan l.side l.initial.words l.i; size : length l.words ≡ length l.initial.words }
