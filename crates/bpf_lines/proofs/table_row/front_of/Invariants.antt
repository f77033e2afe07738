use Rattle.std.proofs.Common.{◌≡◌, ◌≤◌, take, length}
use Rattle.bpf_lines.specs.TableRows.{front_of}
use Rattle.bpf_lines.proofs.table_row.front_of.Given as goal

abbrev pub invariant-loop-end : goal.invariant-loop-end
invariant-loop-end l = (l.end ≤ length l.text) × (front_of l.byte (take l.end l.text) ≡ front_of l.byte l.text)

abbrev pub decreases-loop-end : goal.decreases-loop-end
decreases-loop-end l = l.end
