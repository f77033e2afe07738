use Rattle.std.proofs.Common.{◌+◌, ◌++◌, ◌∙◌, ap, arith, sym}
use Rattle.std.specs.Prelude.{drop, flat_map}
use Rattle.bpfdb_script.proofs.Telling.{Telling-start, Telling-step, Telling-end, pieces-next, pieces-end}
use Rattle.bpf_cover.specs.Sources.{jump_text}
use Rattle.bpf_cover.specs.declared.places.Spot.{Spot}
use Rattle.bpf_cover.proofs.sources.put_jumps.Goals as goal

pub loop-spot-init : goal.loop-spot-init
loop-spot-init g c = Telling-start _ _ _ _

pub loop-spot-preserved : goal.loop-spot-preserved
loop-spot-preserved g c =
    let marks = c.args.marks.now in
    let spots = c.args.spots.now in
    let k = c.loop-spot.spot-index in
    let next = pieces-next (jump_text marks) spots k c.spot-item.result (omega arith) in
    Telling-step _ _ _ _ _ _ _ _ _ _ _ c.loop-spot.invariant (rw c.mark_of.ensures at c.put_branches-told.ensures)
    (next ∙ ap (λ (s : Spot). jump_text marks s ++ flat_map (jump_text marks) (drop (k + 1) spots)) (sym c.spot-item.is))

pub returns : goal.returns
returns g c =
    Telling-end _ _ _ _ _ _ _ c.loop-spot.invariant
    (pieces-end (jump_text c.args.marks.now) c.args.spots.now c.loop-spot.spot-index (omega arith))
