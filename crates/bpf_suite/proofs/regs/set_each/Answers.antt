use Rattle.std.proofs.Common.{◌+◌, ◌∷◌, drop, sym, ap, ◌∙◌}
use Rattle.std.proofs.lemmas.List.{drop_more}
use Rattle.bpf_suite.specs.Regs.{with_regs}
use Rattle.bpf_suite.specs.declared.regs.RegLine.{RegLine}
use Rattle.bpf_suite.proofs.regs.set_each.Goals as goal

pub loop-line-preserved : goal.loop-line-preserved
loop-line-preserved c =
    let i = c.loop-line.line-index in
    let lines = c.args.lines.now in
    let line = c.line-item.result in
    ap (with_regs (drop (i + 1) lines)) c.set_reg.ensures
    ∙ sym (ap (λ ls. with_regs ls c.loop-line.cpu) (drop_more lines i line c.loop-line-test.true ∙ ap (λ (l : RegLine). l ∷ drop (i + 1) lines) (sym c.line-item.is)))
    ∙ c.loop-line.invariant
