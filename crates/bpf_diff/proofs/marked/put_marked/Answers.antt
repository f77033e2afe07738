use Rattle.std.proofs.Common.{◌<◌, arith, length, refl}
use Rattle.std.proofs.lemmas.Grind.{common_steps}
use Rattle.bpfdb_script.proofs.Telling.{Telling-start, Telling-step}
use Rattle.counted_io.proofs.Cutting.{lines-cut}
use Rattle.bpf_diff.proofs.marked.put_marked.Goals as goal

pub loop-rest-init : goal.loop-rest-init
loop-rest-init g c = Telling-start _ _ _ _

pub loop-rest-preserved : goal.loop-rest-preserved
loop-rest-preserved g c =
    let l = c.loop-rest in
    let more : 0 < length l.rest.now = grind (arith, common_steps) in
    Telling-step _ _ _ _ _ _ _ _ _ _ _ l.invariant c.put_marked_line-told.ensures
    (rw (lines-cut l.rest.now more, c.sides.ensures.before, c.sides.ensures.after) refl)
