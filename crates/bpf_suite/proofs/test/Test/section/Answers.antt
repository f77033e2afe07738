use Rattle.std.proofs.Common.{◌∙◌, sym, ap}
use Rattle.bpf_suite.specs.Kinds.{is_part}
use Rattle.bpf_suite.specs.Tests.{section_for}
use Rattle.bpf_suite.proofs.Lists.{find-append, or_else}
use Rattle.bpf_suite.proofs.test.Test.section.Goals as goal

pub returns-in-Some : goal.returns-in-Some
returns-in-Some c =
    let p = c.args.part in
    let own = c.self.inside.own.now in
    let shared = c.self.inside.shared.now in
    sym (ap (section_for p) (sym c.self.view_is) ∙ find-append (λ s. is_part p s.kind) own shared
    ∙ ap (λ found. or_else found (section_for p shared)) (sym c.section_in.ensures ∙ c.in-Some.is))

pub returns-in-None : goal.returns-in-None
returns-in-None c =
    let p = c.args.part in
    let own = c.self.inside.own.now in
    let shared = c.self.inside.shared.now in
    c.section_in-in-None.ensures
    ∙ sym (ap (section_for p) (sym c.self.view_is) ∙ find-append (λ s. is_part p s.kind) own shared
    ∙ ap (λ found. or_else found (section_for p shared)) (sym c.section_in.ensures ∙ c.in-None.is))
