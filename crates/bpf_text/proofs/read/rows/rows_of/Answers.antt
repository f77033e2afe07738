-- Each turn is a step of the rows.
use Rattle.std.proofs.Common.{◌<◌, ◌+◌, ◌≤◌, ◌∙◌, ◌++◌, [], length, ap, sym, arith, append_assoc, map}
use Rattle.std.proofs.lemmas.Grind.{common_steps}
use Rattle.counted_io.specs.Lines.{lines}
use Rattle.counted_io.proofs.Cutting.{length-after}
use Rattle.bpf_text.proofs.LineTables.{rows-none, rows-some}
use Rattle.bpf_text.specs.LineTable.{row}
use Rattle.bpf_text.specs.Scaffolding.Lines.{read_line}
use Rattle.bpf_text.specs.Scaffolding.Rows.{rows}
use Rattle.bpf_text.proofs.read.rows.rows_of.Goals as goal
use Rattle.bpf_text.proofs.read.rows.rows_of.Goals.{in-Some, in_default}

pub loop-rest-preserved : goal.loop-rest-preserved
loop-rest-preserved c =
    let l = c.loop-rest in
    let before = l.invariant.written in
    let left = c.sides.result.1.now in
    let more : 0 < length l.rest.now = grind (arith, common_steps) in
    let shorter : length left < length l.rest.now = omega (arith, length-after 10 l.rest.now more, ap length c.sides.ensures.after) in
    let count : l.line_number + 1 + length left ≤ length c.args.text.now + 1 = omega (arith, shorter, l.invariant.count) in
    elim c.match-slots_of.branch [
      | in-Some w ↦
          let some = rows-some l.slot l.line_number w.in-Some.count l.labels.items c.push_label.new.labels.items l.rest.now c.sides.result.0.now left
          c.read_line-line.result more c.sides.ensures.before c.sides.ensures.after c.read_line-line.ensures (sym w.in-Some.ensures.value)
          c.in_ok-push_label.ensures in
          let others = rows (l.slot + w.in-Some.count) (l.line_number + 1) [] (map read_line (lines left)) in
          let whole = append_assoc before.0 (row l.slot l.line_number w.as_slice.result.now) others
          ∙ ap (λ t. before.0 ++ (row l.slot l.line_number t ++ others)) w.as_slice.ensures.value ∙ ap (λ r. before.0 ++ r) (sym some) ∙ before.2 in
          rw (w.writer-is, w.so_far-is, w.labels-is, w.slot-is, w.clear.ensures.items) (record {
            slots = omega (arith, shorter, w.in-Some.ensures.few, l.invariant.slots);
            count = count;
            written = (before.0 ++ row l.slot l.line_number w.as_slice.result.now, w.put_row-so_far.ensures _ _ before.1, whole);
          })
      | in_default w ↦
          let none = rows-none l.slot l.line_number l.labels.items c.push_label.new.labels.items l.rest.now c.sides.result.0.now left
          c.read_line-line.result more c.sides.ensures.before c.sides.ensures.after c.read_line-line.ensures (sym w.in_default.ensures.value)
          c.in_ok-push_label.ensures in
          rw (w.writer-is, w.so_far-is, w.labels-is, w.slot-is) (record {
            slots = omega (arith, shorter, l.invariant.slots);
            count = count;
            written = (before.0, before.1, ap (λ r. before.0 ++ r) (sym none) ∙ before.2);
          })
    ]
