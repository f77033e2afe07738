use Rattle.bpf_cover.proofs.Making.{Made}
use Rattle.bpf_cover.proofs.texts.Texts.of.Given as goal

abbrev pub invariant-loop-slot : goal.invariant-loop-slot
invariant-loop-slot l = Made l.program l.slot l.bytes.items l.spans.items
