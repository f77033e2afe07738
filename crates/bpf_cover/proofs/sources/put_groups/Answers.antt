use Rattle.std.proofs.Common.{◌≡◌, ◌-◌, arith, true, length, length-drop}
use Rattle.std.specs.Prelude.{drop, take}
use Rattle.std.proofs.lemmas.List.{take_all}
use Rattle.bpfdb_script.proofs.Telling.{Telling-start, Telling-step, Telling-end}
use Rattle.bpf_cover.proofs.Grouping.{next-group, no-group}
use Rattle.bpf_cover.specs.Sources.{group_text}
use Rattle.bpf_cover.proofs.sources.put_groups.Goals as goal

pub loop-start-init : goal.loop-start-init
loop-start-init g c = record { within = omega arith; telling = Telling-start g.W.Write.contents _ _ _ }

pub loop-start-preserved : goal.loop-start-preserved
loop-start-preserved g c =
    let spots = c.args.spots.now in
    let start = c.loop-start.start in
    let size = c.group_size-size.result in
    let tail : take (length spots - start) (drop start spots) ≡ drop start spots = take_all (length spots - start) (drop start spots) (omega (arith, length-drop start spots)) in
    let known = rw tail at c.group_size-size.ensures.groups in
    let most = rw tail at c.group_size-size.ensures.within.1 in
    record {
      within = omega (arith, c.loop-start-test.true, most, length-drop start spots);
      telling =
          Telling-step _ _ _ _ _ _ _ _ _ _ _ c.loop-start.invariant.telling c.put_group-told.ensures
          (next-group (group_text c.args.marks.now) true spots start size known);
    }

pub returns : goal.returns
returns g c =
    Telling-end _ _ _ _ _ _ _ c.loop-start.invariant.telling
    (no-group (group_text c.args.marks.now) true c.args.spots.now c.loop-start.start (omega arith))
