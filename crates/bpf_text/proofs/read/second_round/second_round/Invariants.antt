use Rattle.bpf_text.specs.Scaffolding.Labels.{labels_of, placed_of}
use Rattle.bpf_text.proofs.Rounds.{IsDone}
use Rattle.bpf_text.proofs.read.second_round.second_round.Given as goal

abbrev pub invariant-loop-placed : goal.invariant-loop-placed
invariant-loop-placed l = IsDone (labels_of l.outline) (placed_of l.outline) l.placed-index l.bytes.items
