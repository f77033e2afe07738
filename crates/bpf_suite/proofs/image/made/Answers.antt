use Rattle.std.proofs.Common.{ap, subst, ◌∙◌}
use Rattle.std.specs.List.{filter_map}
use Rattle.bpf_isa.specs.Maps.{AreMaps}
use Rattle.bpf_isa.specs.Programs.{Checked}
use Rattle.bpf_steps.specs.State.{State}
use Rattle.bpf_suite.specs.Cells.{cell_of}
use Rattle.bpf_suite.specs.Outcomes.{with_cells}
use Rattle.bpf_suite.proofs.Leading.{made-lead, made-short}
use Rattle.bpf_suite.proofs.image.made.Goals as goal

pub runs_of-requires : goal.runs_of-requires
runs_of-requires c =
    let opened = c.in-Ok.ensures.ok.1 in
    let program = c.set_cells.ensures.program ∙ ap (λ (y : State). y.program) opened in
    made-short (filter_map cell_of c.args.lines.now) c.args.asks.now c.args.cpu.now.program.maps
    (subst (λ (p : Checked). AreMaps p.maps) program c.invariant.ensures.checked.tables) c.requires.asked c.requires.there

pub returns-clause-lead : goal.returns-clause-lead
returns-clause-lead c =
    let opened = c.in-Ok.ensures.ok.1 in
    let program = c.set_cells.ensures.program ∙ ap (λ (y : State). y.program) opened in
    made-lead c.args.lines.now c.args.asks.now c.args.cpu.now.program c.set_cells.new.cpu c.runs_of.result c.requires.asked
    (subst (λ (p : Checked). AreMaps p.maps) program c.invariant.ensures.checked.tables) c.requires.there c.invariant.ensures
    (c.in-Ok-set_cells.ensures.next ∙ ap (with_cells (filter_map cell_of c.args.lines.now)) opened) program c.runs_of.ensures
