use Rattle.std.proofs.Common.{List, ◌++◌, ap, ◌∙◌, sym, rules, tests}
use Rattle.bpf_suite.specs.Files.{with_shared}
use Rattle.bpf_suite.specs.Tests.{chosen, is_named}
use Rattle.bpf_suite.specs.declared.section.Section.{Section}
use Rattle.bpf_suite.proofs.Lists.{filter-kept, filter-map}
use Rattle.bpf_suite.proofs.list.choose.Goals as goal

pub returns : goal.returns
returns c =
    let shared = c.tests.inside.shared.now in
    let name = c.args.name.now in
    ap (with_shared shared) (filter-kept _ (λ own. is_named name (own ++ shared)) _ (λ x b q called. search (rules, tests)) _ _ c.retain.ensures.filtered)
    ∙ sym (filter-map (is_named name) (λ own. own ++ shared) c.tests.inside.own.items)
    ∙ ap (λ (all : List (List Section)). chosen name all) c.tests.view_is
