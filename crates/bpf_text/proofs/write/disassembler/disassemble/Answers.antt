-- Each slot's lines follow those before.
use Rattle.std.proofs.Common.{◌<◌, ◌++◌, ◌∙◌, length, take, Some, sym, ap, arith}
use Rattle.std.proofs.lemmas.Option.{get_or_from_slice_get}
use Rattle.std.proofs.lemmas.List.{append-nil}
use Rattle.bpf_text.specs.Canonical.{is_target, lines_from, slot_lines}
use Rattle.counted_io.proofs.Appending.{Writes-text}
use Rattle.bpf_text.proofs.Listings.{lines_from-more}
use Rattle.bpf_text.proofs.write.disassembler.disassemble.Goals as goal
use Rattle.bpf_text.proofs.write.disassembler.disassemble.Goals.{in-Some, in_default}

pub loop-slot-preserved : goal.loop-slot-preserved
loop-slot-preserved c =
    let insns = c.args.program.now.insns in
    let slot = c.loop-slot.slot in
    let before = lines_from (is_target 0 insns) 0 (take slot insns) in
    let within : slot < length insns = omega (arith, c.len-slot-end.ensures) in
    let more = lines_from-more (is_target 0 insns) insns slot within in
    elim c.match-insn_at.branch [
      | in-Some w ↦
          let flag = w.index.ensures
          ∙ get_or_from_slice_get c.in_ok-labelled.labelled.items slot _ _ (c.in_ok-labelled.ensures.value slot within) in
          rw (w.writer-is, w.so_far-is) (Writes-text _ _ _ _ _ _ (w.put_lines-so_far.ensures _ _ c.loop-slot.invariant)
          (ap (λ b. before ++ slot_lines b slot (Some w.in-Some.insn)) flag
          ∙ ap (λ i. before ++ slot_lines (is_target 0 insns slot) slot i) w.in-Some.ensures ∙ sym more))
      | in_default w ↦
          rw (w.writer-is, w.so_far-is) (Writes-text _ _ _ _ _ _ c.loop-slot.invariant
          (sym (append-nil before) ∙ ap (λ i. before ++ slot_lines (is_target 0 insns slot) slot i) w.in_default.ensures ∙ sym more))
    ]
