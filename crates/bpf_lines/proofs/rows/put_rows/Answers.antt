use Rattle.std.proofs.Common.{◌≡◌, ◌++◌, ◌∙◌, ap, arith, add-one}
use Rattle.counted_io.proofs.Appending.{WritesAfter-WritesAfter, WritesAfter-text}
use Rattle.bpf_link.specs.Names.{built}
use Rattle.bpf_link.specs.Parts.{part_of, slots_in}
use Rattle.bpf_lines.specs.Functions.{function_at}
use Rattle.bpf_lines.specs.LineInfo.{line_at}
use Rattle.bpf_lines.specs.Rows.{with_row}
use Rattle.bpf_lines.proofs.Marking.{symbol_below}
use Rattle.bpf_lines.proofs.Texts.{row_more, row_said}
use Rattle.bpf_lines.proofs.rows.put_rows.Goals as goal

pub loop-slot-preserved : goal.loop-slot-preserved
loop-slot-preserved g c =
    let part = part_of c.args.plan.now.parts c.args.side in
    let function =
    (rw c.deref.ensures.value at c.with_slot-function.ensures.value) (function_at c.args.plan.now part.section) c.requires.told.functions
    c.loop-slot.invariant.function
    in
    let line =
    (rw c.deref-in-loop-slot.ensures.value at c.with_slot-line.ensures.value) (line_at c.args.told.now.listed c.args.told.now.block)
    c.requires.told.lines c.loop-slot.invariant.line
    in
    record {
      function = function;
      line = line;
      begun = c.with_slot-function.ensures.below;
      lined = c.with_slot-line.ensures.below;
      written =
          WritesAfter-WritesAfter g.W.Write.contents _ _ _ _ _ _ _ _ _ c.loop-slot.invariant.written c.put_row-all.ensures
          (ap (λ t. built (with_row c.args.plan.now part c.args.told.now c.args.words.now c.args.first) c.loop-slot.slot ++ t)
          (row_said c.args.plan.now part c.args.told.now c.args.words.now _ c.said_since-said.result _
          (c.said_since-said.ensures.function _ c.requires.told.functions) (c.said_since-said.ensures.line _ c.requires.told.lines))
          ∙ row_more c.args.plan.now part c.args.told.now c.args.words.now c.args.first c.loop-slot.slot _ c.with_slot-function.result
          c.with_slot-line.result (add-one c.loop-slot.slot) function line);
    }

pub put_row-all-requires-clause-symbol : goal.put_row-all-requires-clause-symbol
put_row-all-requires-clause-symbol g c =
    let part = part_of c.args.plan.now.parts c.args.side in
    symbol_below c.args.plan.now part.section _ c.said_since-said.result.function (c.said_since-said.ensures.function _ c.requires.told.functions)

pub returns : goal.returns
returns g c =
    let part = part_of c.args.plan.now.parts c.args.side in
    let size = rw c.part-part.ensures.value at c.len-slot-end.ensures in
    let end : c.loop-slot.slot ≡ slots_in part = omega (arith, size) in
    WritesAfter-text g.W.Write.contents _ _ _ _ _ _ c.loop-slot.invariant.written
    (ap (built (with_row c.args.plan.now part c.args.told.now c.args.words.now c.args.first)) end)
