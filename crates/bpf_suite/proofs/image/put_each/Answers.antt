use Rattle.std.proofs.Common.{◌+◌, ◌∷◌, drop, sym, ap, ◌∙◌}
use Rattle.std.proofs.lemmas.List.{drop_more}
use Rattle.bpf_suite.specs.Images.{with_runs}
use Rattle.bpf_suite.specs.declared.image.Run.{Run}
use Rattle.bpf_suite.proofs.image.put_each.Goals as goal

pub loop-run-preserved : goal.loop-run-preserved
loop-run-preserved c =
    let i = c.loop-run.run-index in
    let runs = c.args.runs.now in
    let run = c.run-item.result in
    ap (with_runs (drop (i + 1) runs)) c.put_run.ensures
    ∙ sym (ap (λ rs. with_runs rs c.loop-run.cpu) (drop_more runs i run c.loop-run-test.true ∙ ap (λ (r : Run). r ∷ drop (i + 1) runs) (sym c.run-item.is)))
    ∙ c.loop-run.invariant
