use Rattle.std.proofs.Common.{◌≡◌, length}
use Rattle.bpf_lines.specs.LineInfo.{names_slot}
use Rattle.bpf_lines.specs.Marks.{AreMarks, last_named}
use Rattle.bpf_lines.proofs.line_info.block_lines.Given as goal

abbrev pub invariant-loop-i : goal.invariant-loop-i
invariant-loop-i l = record {
  marked : AreMarks (last_named (names_slot l.listed l.block) l.i) l.marks.items;
  size : length l.marks.items ≡ l.count;
}
