use Rattle.std.proofs.Common.{◌≡◌, true, false, refl, ap, subst, ◌∙◌}
use Rattle.std.specs.Prelude.{IfOk}
use Rattle.bpf_suite.specs.Cells.{cell_lines}
use Rattle.bpf_suite.specs.Faults.{has_part}
use Rattle.bpf_suite.specs.Reports.{AreTold}
use Rattle.bpf_suite.specs.Tests.{body_for}
use Rattle.bpf_suite.specs.declared.kind.Part.TheVariants as part
use Rattle.bpf_suite.proofs.Shares.{wrong-chosen}
use Rattle.bpf_suite.proofs.bench.wrong_for.Goals as goal

pub returns-then-has_part-clause-wrong : goal.returns-then-has_part-clause-wrong
returns-then-has_part-clause-wrong c = λ shared is.
    let own = c.args.own.now in
    let has : true ≡ has_part part.CellsAfter own = c.if-has_part.ensures ∙ ap (has_part part.CellsAfter) c.sections.ensures in
    let lines = c.as_slice.ensures.value ∙ c.in_ok-lines.ensures ∙ ap (λ s. cell_lines (body_for part.CellsAfter s)) c.sections-then-has_part.ensures in
    let same = wrong-chosen own shared true c.as_slice.result.now c.args.wanted.now c.as_slice.result.now c.args.outcome.now has lines is refl in
    subst (λ all. IfOk c.wrong_cells.result (AreTold all)) same c.wrong_cells.ensures

pub returns-clause-wrong : goal.returns-clause-wrong
returns-clause-wrong c = λ shared is.
    let own = c.args.own.now in
    let has : false ≡ has_part part.CellsAfter own = c.if-has_part.ensures ∙ ap (has_part part.CellsAfter) c.sections.ensures in
    let same = wrong-chosen own shared false (cell_lines (body_for part.CellsAfter own)) c.args.wanted.now c.args.wanted.now c.args.outcome.now has refl is refl in
    subst (λ all. IfOk c.wrong_cells-2.result (AreTold all)) same c.wrong_cells-2.ensures.wrong
