use Rattle.std.proofs.Common.{◌∙◌, arith, refl, sym}
use Rattle.bpf_origin.specs.Texts.{left_line}
use Rattle.bpfdb_script.proofs.Telling.{Telling-start, Telling-step, Telling-end}
use Rattle.bpf_origin.proofs.Joining.{joined-longer, joined-next, joined-end}
use Rattle.bpf_origin.proofs.left.put_joined.Goals as goal
use Rattle.bpf_origin.proofs.left.put_joined.Goals.{in-Some, in-None}

pub loop-place-init : goal.loop-place-init
loop-place-init g c = Telling-start _ _ _ _

pub loop-place-preserved : goal.loop-place-preserved
loop-place-preserved g c =
    elim c.match-grown.branch [
      | in-Some w ↦ rw (w.writer-is, w.told-is, w.run-is)
          (rw (joined-longer (left_line c.args.opening c.args.cpu.now) c.loop-place.run _ c.args.others.now c.loop-place.place-index _ (omega arith)
          (sym c.grown.ensures ∙ w.in-Some.is)) at c.loop-place.invariant)
      | in-None w ↦ rw (w.writer-is, w.told-is, w.run-is)
          (Telling-step _ _ _ _ _ _ _ _ _ _ _ c.loop-place.invariant w.put_left_line-told.ensures
          (joined-next (left_line c.args.opening c.args.cpu.now) c.loop-place.run _ c.args.others.now c.loop-place.place-index _ (omega arith)
          (sym c.grown.ensures ∙ w.in-None.is) w.part_of-run.ensures))
    ]

pub returns : goal.returns
returns g c =
    Telling-end _ _ _ _ _ _ _
    (Telling-step _ _ _ _ _ _ _ _ _ _ _ c.loop-place.invariant c.put_left_line.ensures
    (joined-end (left_line c.args.opening c.args.cpu.now) c.loop-place.run c.args.others.now c.loop-place.place-index (omega arith)))
    refl
