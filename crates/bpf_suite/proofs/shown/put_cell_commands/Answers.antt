use Rattle.std.proofs.Common.{[], ◌∷◌, ◌+◌, drop, ap, ◌∙◌, arith}
use Rattle.std.proofs.lemmas.List.{drop_all}
use Rattle.std.proofs.lemmas.Grind.{flat_map-append}
use Rattle.std.specs.List.{filter_map}
use Rattle.std.specs.Prelude.{flat_map}
use Rattle.bpf_suite.specs.Cells.{cell_of}
use Rattle.bpf_suite.specs.Shown.{cell_command}
use Rattle.bpfdb_script.proofs.Telling.{Telling-start, Telling-step, Telling-end}
use Rattle.bpf_suite.proofs.CellValues.{cells-next}
use Rattle.bpf_suite.proofs.shown.put_cell_commands.Goals as goal

pub loop-line-init : goal.loop-line-init
loop-line-init g c = Telling-start _ _ _ _

pub loop-line-preserved : goal.loop-line-preserved
loop-line-preserved g c =
    let i = c.loop-line.line-index in
    let lines = c.args.lines.now in
    let line = c.line-item.result in
    let next = ap (flat_map cell_command) (cells-next lines i line c.loop-line-test.true c.line-item.is)
    ∙ flat_map-append cell_command (filter_map cell_of (line ∷ [])) (filter_map cell_of (drop (i + 1) lines)) in
    Telling-step _ _ _ _ _ _ _ _ _ _ _ c.loop-line.invariant c.in_ok-told.ensures next

pub returns : goal.returns
returns g c = Telling-end _ _ _ _ _ _ _ c.loop-line.invariant
    (ap (λ ls. flat_map cell_command (filter_map cell_of ls)) (drop_all c.loop-line.line-index c.args.lines.now (omega arith)))
