use Rattle.std.proofs.Common.{◌≡◌, ◌≤◌, ◌+◌, length, map}
use Rattle.counted_io.specs.Lines.{lines}
use Rattle.bpf_text.specs.Scaffolding.Lines.{read_line}
use Rattle.bpf_text.specs.Scaffolding.Rounds.{first_round, nothing}
use Rattle.bpf_text.specs.Scaffolding.Labels.{labels_of, placed_of}
use Rattle.bpf_text.proofs.read.first_round.first_round.Given as goal

abbrev pub invariant-loop-rest : goal.invariant-loop-rest
invariant-loop-rest l = record {
  within : l.slot ≤ 65535;
  count : l.line_number + length l.rest ≤ length l.text + 1;
  round : first_round (labels_of l.outline, placed_of l.outline) l.slot l.line_number (map read_line (lines l.rest))
      ≡ first_round nothing 0 1 (map read_line (lines l.text));
}

abbrev pub decreases-loop-rest : goal.decreases-loop-rest
decreases-loop-rest l = length l.rest
