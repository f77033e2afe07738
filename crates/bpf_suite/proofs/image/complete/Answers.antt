use Rattle.std.proofs.Common.{sym, ap, subst, ◌∙◌}
use Rattle.bpf_isa.specs.Programs.{Checked}
use Rattle.bpf_suite.specs.Asks.{AreAskedOf}
use Rattle.bpf_suite.proofs.Asking.{none-missing}
use Rattle.bpf_suite.proofs.image.complete.Goals as goal

pub returns-in-Some-clause-known : goal.returns-in-Some-clause-known
returns-in-Some-clause-known c = λ none.
    let cells = c.args.setting.now.cells in
    let maps = c.maps.ensures ∙ ap (λ (p : Checked). p.maps) c.program.ensures in
    let asked = subst (AreAskedOf cells) (sym c.as_slice.ensures.value) c.requires.asked in
    absurd (none-missing c.args.cpu.now.program.maps c.maps.result.now cells c.missing.result c.in-Some.field-0 (c.missing.ensures cells asked) c.in-Some.is maps none)
