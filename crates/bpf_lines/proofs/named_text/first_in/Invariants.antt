use Rattle.std.proofs.Common.{◌≡◌, length}
use Rattle.bpf_lines.specs.NamedTexts.{first_in, words}
use Rattle.bpf_lines.proofs.named_text.first_in.Given as goal

abbrev pub invariant-loop-rest : goal.invariant-loop-rest
invariant-loop-rest l = first_in l.names (words l.rest) ≡ first_in l.names (words l.text)

abbrev pub decreases-loop-rest : goal.decreases-loop-rest
decreases-loop-rest l = length l.rest
