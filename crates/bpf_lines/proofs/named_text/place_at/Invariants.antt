use Rattle.std.proofs.Common.{◌≡◌, ◌+◌, drop}
use Rattle.bpf_lines.specs.NamedTexts.{place_at}
use Rattle.bpf_lines.proofs.named_text.place_at.Given as goal

abbrev pub invariant-loop-at : goal.invariant-loop-at
invariant-loop-at l = place_at l.line ≡ l.at + place_at (drop l.at l.line)
