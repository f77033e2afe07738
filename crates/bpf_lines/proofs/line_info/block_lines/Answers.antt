use Rattle.std.proofs.Common.{◌∙◌, ◌*◌, ◌==◌, ap, sym}
use Rattle.bpf_lines.specs.LineInfo.{names_slot}
use Rattle.bpf_lines.proofs.line_info.block_lines.Goals as goal

pub loop-i-init : goal.loop-i-init
loop-i-init c = record { marked = c.in-Ok.ensures.ok (names_slot c.args.listed.now c.args.block); size = c.in-Ok.ensures.size }

pub loop-i-preserved : goal.loop-i-preserved
loop-i-preserved c = record {
  marked =
      c.with_mark-marks.ensures.same (names_slot c.args.listed.now c.args.block)
      (λ slot. ap (λ n. n == 8 * slot) (sym (c.from.ensures ∙ ap (λ e. e.offset) (rw c.record_place.ensures.value at c.line_entry-entry.ensures))))
      c.loop-i.invariant.marked;
  size = c.with_mark-marks.ensures.size ∙ c.loop-i.invariant.size;
}
