use Rattle.std.proofs.Common.{◌≡◌, length}
use Rattle.bpf_lines.specs.Functions.{begins_in}
use Rattle.bpf_lines.specs.Marks.{AreMarks, last_named}
use Rattle.bpf_lines.proofs.functions.functions_of.Given as goal

abbrev pub invariant-loop-i : goal.invariant-loop-i
invariant-loop-i l = record {
  marked : AreMarks (last_named (begins_in l.plan l.section) l.i) l.marks.items;
  size : length l.marks.items ≡ l.count;
}
