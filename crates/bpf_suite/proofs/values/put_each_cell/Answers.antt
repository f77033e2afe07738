use Rattle.std.proofs.Common.{◌≡◌, ◌++◌, ◌+◌, drop, sym, ap, ◌∙◌, arith}
use Rattle.std.specs.Prelude.{flat_map}
use Rattle.bpf_suite.specs.Reports.{cell_text}
use Rattle.bpfdb_script.proofs.Telling.{Telling-start, Telling-step, Telling-end, pieces-next, pieces-end}
use Rattle.bpf_suite.proofs.values.put_each_cell.Goals as goal

pub loop-line-init : goal.loop-line-init
loop-line-init g c = Telling-start _ _ _ _

pub loop-line-preserved : goal.loop-line-preserved
loop-line-preserved g c =
    let i = c.loop-line.line-index in
    let wrong = c.args.wrong.now in
    let text = cell_text c.args.cpu.now in
    let line = c.line-item.result in
    let next : flat_map text (drop i wrong) ≡ text line ++ flat_map text (drop (i + 1) wrong) =
    pieces-next text wrong i line (omega arith) ∙ ap (λ l. text l ++ flat_map text (drop (i + 1) wrong)) (sym c.line-item.is) in
    Telling-step _ _ _ _ _ _ _ _ _ _ _ c.loop-line.invariant c.put_cell-told.ensures next

pub returns : goal.returns
returns g c = Telling-end _ _ _ _ _ _ _ c.loop-line.invariant (pieces-end (cell_text c.args.cpu.now) c.args.wrong.now c.loop-line.line-index (omega arith))
