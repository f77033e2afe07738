use Rattle.std.proofs.Common.{◌++◌, ◌+◌, ◌∙◌, [], ◌∷◌, sym, ap, arith, drop, get_or}
use Rattle.std.specs.List.{slice_range}
use Rattle.std.proofs.lemmas.List.{take_rest}
use Rattle.bpf_suite.specs.Faults.{first_fault, or_next}
use Rattle.bpf_suite.specs.Files.{until_name}
use Rattle.bpf_suite.specs.declared.kind.Kind.TheVariants as kind
use Rattle.bpf_suite.specs.declared.section.Section.{Section}
use Rattle.bpf_suite.proofs.Lists.{range-more}
use Rattle.bpf_suite.proofs.Tests.{first_fault-at}
use Rattle.bpf_suite.proofs.suite.first_fault.Goals as goal

none : Section
none = record { line = 0; kind = kind.Name; body = [] }

pub returns-in-Some : goal.returns-in-Some
returns-in-Some c =
    let at = c.loop-at.at in
    let sections = c.args.sections.now in
    let shared = until_name sections in
    let earlier = slice_range sections c.test_start-start.result at in
    let next = first_fault-at shared (slice_range sections c.loop-at.start at) earlier sections at none c.loop-at-test.true (c.test_start-start.ensures.value none) in
    let seen = rw (c.until_name-shared.ensures, take_rest sections at) at c.in_ok-fault.ensures in
    sym (sym c.loop-at.invariant.rest ∙ next
    ∙ ap (λ fault. or_next fault (first_fault shared (earlier ++ get_or sections at none ∷ []) (drop (at + 1) sections))) (sym seen ∙ c.in-Some.is))

pub loop-at-preserved : goal.loop-at-preserved
loop-at-preserved c =
    let at = c.loop-at.at in
    let sections = c.args.sections.now in
    let shared = until_name sections in
    let earlier = slice_range sections c.test_start-start.result at in
    let next = first_fault-at shared (slice_range sections c.loop-at.start at) earlier sections at none c.loop-at-test.true (c.test_start-start.ensures.value none) in
    let seen = rw (c.until_name-shared.ensures, take_rest sections at) at c.in_ok-fault.ensures in
    record {
      start = omega (arith, c.test_start-start.ensures.within);
      rest = ap (λ e. first_fault shared e (drop (at + 1) sections)) (sym (range-more sections c.test_start-start.result at none c.test_start-start.ensures.within c.loop-at-test.true))
          ∙ sym (ap (λ fault. or_next fault (first_fault shared (earlier ++ get_or sections at none ∷ []) (drop (at + 1) sections))) (sym seen ∙ c.in-None.is))
          ∙ sym next ∙ c.loop-at.invariant.rest;
    }
