use Rattle.std.proofs.Common.{◌≡◌, Ok}
use Rattle.bpf_link.specs.Links.{relocated}
use Rattle.bpf_link.proofs.words.relocate.Given as goal

abbrev pub invariant-loop-i : goal.invariant-loop-i
invariant-loop-i l = relocated l.placed l.side l.initial.words l.i ≡ Ok l.words
