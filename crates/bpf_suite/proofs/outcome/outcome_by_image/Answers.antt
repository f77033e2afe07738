use Rattle.std.proofs.Common.{List, Some, sym, ap, subst, ◌∙◌}
use Rattle.bpf_isa.specs.Programs.{Checked}
use Rattle.bpf_isa.specs.declared.maps.MapShape.{MapShape}
use Rattle.bpf_suite.specs.Asks.{AreAskedOf, IsMissing}
use Rattle.bpf_suite.proofs.CellValues.{refuses-by-image}
use Rattle.bpf_suite.proofs.outcome.outcome_by_image.Goals as goal

pub returns-in-Some-clause-err : goal.returns-in-Some-clause-err
returns-in-Some-clause-err c =
    let t = c.args.setting.now in
    let refusal = c.in-Some.refusal in
    let maps = c.maps.ensures ∙ ap (λ (p : Checked). p.maps) (c.program.ensures ∙ c.open_again.ensures.program) in
    refuses-by-image t c.args.cpu.now.program c.args.image.now c.requires c.in-Ok.ensures.ok.0 refusal
    (subst (λ (ms : List MapShape). IsMissing ms t.cells (Some refusal)) maps
    (subst (IsMissing c.maps.result.now t.cells) c.in-Some.is (c.missing.ensures t.cells (subst (AreAskedOf t.cells) (sym c.as_slice.ensures.value) c.requires.made.asked))))
