use Rattle.std.proofs.Common.{ℕ, ◌≡◌, ◌≤◌, ◌+◌, ◌*◌, ◌++◌, List, [], length, map, Some}
use Rattle.counted_io.specs.Lines.{lines}
use Rattle.counted_io.specs.Writing.{Writes}
use Rattle.bpf_text.specs.Scaffolding.Lines.{read_line}
use Rattle.bpf_text.specs.Scaffolding.Rows.{rows}
use Rattle.bpf_text.proofs.read.rows.rows_of.Given as goal

abbrev pub invariant-loop-rest : goal.invariant-loop-rest
invariant-loop-rest l = record {
  slots : l.slot + 2 * length l.rest ≤ 2 * length l.text;
  count : l.line_number + length l.rest ≤ length l.text + 1;
  written : (done : List ℕ) × Writes (λ v. Some v.items) l.initial.writer l.writer l.so_far done
      × (done ++ rows l.slot l.line_number l.labels.items (map read_line (lines l.rest)) ≡ rows 0 1 [] (map read_line (lines l.text)));
}

abbrev pub decreases-loop-rest : goal.decreases-loop-rest
decreases-loop-rest l = length l.rest
