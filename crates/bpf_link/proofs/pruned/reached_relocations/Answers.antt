use Rattle.std.proofs.Common.{◌∙◌, sym, ap}
use Rattle.bpf_link.specs.Pruned.{is_kept}
use Rattle.bpf_link.proofs.Pruning.{with_kept, without_kept}
use Rattle.bpf_link.proofs.pruned.reached_relocations.Goals as goal
use Rattle.bpf_link.proofs.pruned.reached_relocations.Goals.{then-is_kept+in-Ok, else-is_kept}

pub loop-i-preserved : goal.loop-i-preserved
loop-i-preserved c = elim c.if-is_kept.branch [
  | then-is_kept+in-Ok w ↦ rw w.bytes-is (with_kept c.args.reach.now c.args.first c.args.relocations.now c.loop-i.i c.loop-i.bytes.items w.bytes_at.result.now _ c.loop-i.invariant (rw c.len-i-end.ensures at c.loop-i-test.true) (ap (is_kept c.args.reach.now c.args.first) (sym c.at.ensures) ∙ sym c.is_kept.ensures ∙ w.if-is_kept.true) w.bytes_at.ensures.size w.bytes_at.ensures.same w.in-Ok.ensures.items)
  | else-is_kept w ↦ rw w.bytes-is (without_kept c.args.reach.now c.args.first c.args.relocations.now c.loop-i.i c.loop-i.bytes.items c.loop-i.invariant (rw c.len-i-end.ensures at c.loop-i-test.true) (ap (is_kept c.args.reach.now c.args.first) (sym c.at.ensures) ∙ sym c.is_kept.ensures ∙ w.if-is_kept.false))
]
