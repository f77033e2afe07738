use Rattle.std.proofs.Common.{◌≡◌, ◌+◌, ◌<◌, ◌∙◌, None, arith, ap, get_or, is_some, length, sym}
use Rattle.std.proofs.lemmas.List.Sums.{count_by_more_no, count_by_more_yes}
use Rattle.std.proofs.lemmas.Option.{unwrap_or-slice_get}
use Rattle.bpfdb_jobs.proofs.check.instructions.Goals as goal
use Rattle.bpfdb_jobs.proofs.check.instructions.Goals.{then-is_some, else-is_some}

pub loop-slot-preserved : goal.loop-slot-preserved
loop-slot-preserved c =
    let insns = c.args.program.now.insns in
    let slot = c.loop-slot.slot in
    let so_far = c.loop-slot.invariant in
    let within : slot < length insns = omega (arith, c.len-slot-end.ensures) in
    let read : c.is_some.result ≡ is_some (get_or insns slot None) =
    c.is_some.ensures ∙ ap is_some (c.insn_at.ensures ∙ unwrap_or-slice_get insns slot None) in
    elim c.if-is_some.branch [
      | then-is_some w ↦ record {
        total = w.count-is ∙ ap (λ n. n + 1) so_far.total
            ∙ sym (count_by_more_yes is_some insns slot None within (sym read ∙ w.if-is_some.true));
        few = omega (arith, w.count-is, so_far.few);
      }
      | else-is_some w ↦ record {
        total = w.count-is ∙ so_far.total ∙ sym (count_by_more_no is_some insns slot None within (sym read ∙ w.if-is_some.false));
        few = omega (arith, w.count-is, so_far.few);
      }
    ]
