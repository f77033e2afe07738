use Rattle.std.proofs.Common.{◌≡◌, ◌+◌, [], ◌∷◌, drop, None, subst, ◌∙◌}
use Rattle.std.specs.List.{filter_map}
use Rattle.bpf_isa.specs.Programs.{Checked}
use Rattle.bpf_suite.specs.Cells.{cell_of}
use Rattle.bpf_suite.specs.Outcomes.{missing}
use Rattle.bpf_suite.proofs.CellValues.{cells-next, missing-next, with_cells-next}
use Rattle.bpf_suite.proofs.outcome.set_cells.Goals as goal

pub loop-line-preserved : goal.loop-line-preserved
loop-line-preserved c =
    let i = c.loop-line.line-index in
    let lines = c.args.lines.now in
    let line = c.line-item.result in
    let x0 = c.args.cpu.now in
    let next = cells-next lines i line c.loop-line-test.true c.line-item.is in
    let none : missing x0.program.maps (filter_map cell_of (line ∷ [])) ≡ None =
    subst (λ (p : Checked). missing p.maps (filter_map cell_of (line ∷ [])) ≡ None) c.loop-line.invariant.program c.in-Ok.ensures.there in
    record {
      program = c.in-Ok.ensures.program ∙ c.loop-line.invariant.program;
      state = with_cells-next (filter_map cell_of (drop i lines)) (filter_map cell_of (line ∷ [])) (filter_map cell_of (drop (i + 1) lines)) c.loop-line.cpu _ next c.in-Ok.ensures.next ∙ c.loop-line.invariant.state;
      there = missing-next x0.program.maps (filter_map cell_of (drop i lines)) (filter_map cell_of (line ∷ [])) (filter_map cell_of (drop (i + 1) lines)) next none ∙ c.loop-line.invariant.there;
    }
