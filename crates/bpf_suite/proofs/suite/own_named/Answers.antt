use Rattle.std.proofs.Common.{◌++◌, rules, tests}
use Rattle.bpf_suite.specs.Tests.{is_named}
use Rattle.bpf_suite.proofs.Lists.{filter-kept}
use Rattle.bpf_suite.proofs.suite.own_named.Goals as goal

pub returns : goal.returns
returns c =
    rw c.in-Some.is
    (filter-kept _ (λ own. is_named c.in-Some.name.now (own ++ c.args.shared.now)) _ (λ x b q called. search (rules, tests)) _ _ c.retain.ensures.filtered)
