use Rattle.std.proofs.Common.{◌≡◌, ◌++◌, ◌+◌, [], ◌∷◌, List, take, drop, sym, ap, ◌∙◌}
use Rattle.std.proofs.lemmas.List.{drop_more, take_more, take-append-drop, map-append}
use Rattle.bpf_suite.specs.Files.{with_shared}
use Rattle.bpf_suite.specs.declared.section.Section.{Section}
use Rattle.bpf_suite.proofs.Reporting.{Reported-broken, Reported-step}
use Rattle.bpf_suite.proofs.report.run_each.Goals as goal

pub loop-sections-preserved : goal.loop-sections-preserved
loop-sections-preserved g c =
    let i = c.loop-sections.sections-index in
    let shared = c.args.bench.sections in
    let all = c.args.own.now in
    let own = c.sections-item.result in
    let r = c.in-Ok.ensures.ok in
    let test = own ++ shared in
    let more : with_shared shared (take (i + 1) all) ≡ with_shared shared (take i all) ++ test ∷ [] =
    ap (with_shared shared) (take_more all i own c.loop-sections-test.true ∙ ap (λ (o : List Section). take i all ++ o ∷ []) (sym c.sections-item.is))
    ∙ map-append (λ o. o ++ shared) (take i all) (own ∷ []) in
    let run = rw c.loop-sections.invariant.shared at r in
    record {
      shared = c.report.ensures.sections ∙ c.loop-sections.invariant.shared;
      reported = rw (more, c.saturating_add-number.ensures, c.both-passed.ensures)
          (Reported-step g.W.Write.contents c.args.writer.now c.args.file.now c.args.first c.loop-sections.writer c.report.new.writer (with_shared shared (take i all)) test
          c.loop-sections.number c.loop-sections.passed c.in-Ok.ok c.loop-sections.invariant.reported run.0 run.1 run.2 run.3);
    }

pub returns-in-Err-clause-err : goal.returns-in-Err-clause-err
returns-in-Err-clause-err g c =
    let i = c.loop-sections.sections-index in
    let shared = c.args.bench.sections in
    let own = c.args.own.now in
    let mine = c.sections-item.result in
    let test = mine ++ shared in
    let all : with_shared shared own ≡ with_shared shared (take i own) ++ test ∷ with_shared shared (drop (i + 1) own) =
    ap (with_shared shared) (sym (take-append-drop i own) ∙ ap (λ rest. take i own ++ rest) (drop_more own i mine c.loop-sections-test.true)
    ∙ ap (λ (o : List Section). take i own ++ o ∷ drop (i + 1) own) (sym c.sections-item.is))
    ∙ map-append (λ o. o ++ shared) (take i own) (mine ∷ drop (i + 1) own) in
    Reported-broken g.W.Write.contents c.args.writer.now c.args.file.now c.args.first c.loop-sections.writer c.report.new.writer (with_shared shared (take i own))
    (with_shared shared (drop (i + 1) own)) (with_shared shared own) test c.loop-sections.number c.loop-sections.passed c.in-Err.fault c.loop-sections.invariant.reported
    (rw c.loop-sections.invariant.shared at c.in-Err.ensures.err) all
