use Rattle.std.proofs.Common.{◌++◌, ◌∙◌, [], sym, ap}
use Rattle.std.proofs.lemmas.List.{take_rest}
use Rattle.bpf_suite.specs.Files.{named}
use Rattle.bpf_suite.specs.declared.kind.Kind.TheVariants as kind
use Rattle.bpf_suite.specs.declared.section.Section.{Section}
use Rattle.bpf_suite.proofs.Tests.{drop-one}
use Rattle.bpf_suite.proofs.suite.named.Goals as goal

none : Section
none = record { line = 0; kind = kind.Name; body = [] }

pub loop-at-preserved : goal.loop-at-preserved
loop-at-preserved c =
    let at = c.loop-at.at in
    let sections = c.args.sections.now in
    ap (λ rest. c.push_named.new.found.items ++ named rest) (sym (drop-one sections at none c.loop-at-test.true))
    ∙ rw (take_rest sections at) at c.in_ok-push_named.ensures ∙ c.loop-at.invariant
