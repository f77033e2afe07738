use Rattle.std.proofs.Common.{◌≡◌, ◌<◌}
use Rattle.std.specs.Prelude.{IfSome}
use Rattle.counted_io.specs.Writing.{WritesAfter}
use Rattle.bpf_link.specs.Names.{built}
use Rattle.bpf_link.specs.Parts.{part_of}
use Rattle.bpf_lines.specs.Functions.{function_at}
use Rattle.bpf_lines.specs.LineInfo.{line_at}
use Rattle.bpf_lines.specs.Rows.{with_row}
use Rattle.bpf_lines.specs.Slots.{last_said}
use Rattle.bpf_lines.proofs.rows.put_rows.Given as goal

abbrev pub invariant-loop-slot : goal.invariant-loop-slot
invariant-loop-slot g l = record {
  function : l.function ≡ last_said (function_at l.plan (part_of l.plan.parts l.fn.side).section) l.slot;
  line : l.line ≡ last_said (line_at l.told.listed l.told.block) l.slot;
  begun : IfSome l.function (λ k. k < l.slot);
  lined : IfSome l.line (λ k. k < l.slot);
  written : WritesAfter g.W.Write.contents l.fn.writer l.fn.so_far l.writer l.all (built (with_row l.plan (part_of l.plan.parts l.fn.side) l.told l.words l.first) l.slot);
}
