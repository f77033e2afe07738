use Rattle.std.proofs.Common.{◌<◌, ◌≡◌, length, arith}
use Rattle.std.proofs.lemmas.Grind.{common_steps}
use Rattle.bpfdb_script.proofs.Telling.{Telling-start, Telling-step, Telling-end}
use Rattle.bpf_cover.proofs.Records.{rows-end, rows-next}
use Rattle.bpf_cover.proofs.tracefile.put_rows.Goals as goal

pub loop-rest-init : goal.loop-rest-init
loop-rest-init g c = Telling-start g.W.Write.contents _ _ _

pub loop-rest-preserved : goal.loop-rest-preserved
loop-rest-preserved g c =
    let l = c.loop-rest in
    let more : 0 < length l.rest.now = grind (arith, common_steps) in
    let next = rows-next c.args.head c.args.marks.now l.rest.now more in
    Telling-step _ _ _ _ _ _ _ _ _ _ _ l.invariant c.put_row-told.ensures (rw (c.sides.ensures.before, c.sides.ensures.after) next)

pub returns : goal.returns
returns g c =
    let l = c.loop-rest in
    let none : length l.rest.now ≡ 0 = grind (arith, common_steps) in
    Telling-end _ _ _ _ _ _ _ l.invariant (rows-end c.args.head c.args.marks.now l.rest.now none)
