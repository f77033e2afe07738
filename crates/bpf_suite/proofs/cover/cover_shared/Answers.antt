use Rattle.std.proofs.Common.{◌≡◌, ◌++◌, ◌+◌, [], ◌∷◌, List, take, sym, ap, refl, ◌∙◌}
use Rattle.std.proofs.lemmas.List.{take_more}
use Rattle.bpf_suite.specs.declared.section.Section.{Section}
use Rattle.bpf_suite.proofs.Covering.{found-none}
use Rattle.bpf_suite.proofs.cover.cover_shared.Goals as goal

pub loop-sections-init : goal.loop-sections-init
loop-sections-init c = record { shared = refl; found = found-none }

pub loop-sections-preserved : goal.loop-sections-preserved
loop-sections-preserved c =
    let i = c.loop-sections.sections-index in
    let all = c.args.own.now in
    let own = c.sections-item.result in
    let more : take (i + 1) all ≡ take i all ++ own ∷ [] =
    take_more all i own c.loop-sections-test.true ∙ ap (λ (o : List Section). take i all ++ o ∷ []) (sym c.sections-item.is) in
    let next = rw (c.in-Ok.is, c.loop-sections.invariant.shared) at c.cover_next.ensures.found in
    record {
      shared = c.cover_next.ensures.sections ∙ c.loop-sections.invariant.shared;
      found = rw more (next (take i all) c.loop-sections.invariant.found);
    }
