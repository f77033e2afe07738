use Rattle.std.proofs.Common.{◌≡◌, ◌==◌, ◌++◌, ◌∷◌, ◌+◌, [], List, not, take, sym, ap, ◌∙◌}
use Rattle.std.specs.List.{filter}
use Rattle.std.proofs.lemmas.List.{take_more}
use Rattle.bpf_suite.specs.Regs.{last_lines}
use Rattle.bpf_suite.specs.declared.regs.RegLine.{RegLine}
use Rattle.bpf_suite.proofs.RegValues.{last_lines-more}
use Rattle.bpf_suite.proofs.regs.last_lines.Goals as goal

pub loop-line-preserved : goal.loop-line-preserved
loop-line-preserved c =
    let i = c.loop-line.line-index in
    let lines = c.args.lines.now in
    let line = c.line-item.result in
    let next : take (i + 1) lines ≡ take i lines ++ line ∷ [] =
    take_more lines i line c.loop-line-test.true ∙ ap (λ (l : RegLine). take i lines ++ l ∷ []) (sym c.line-item.is) in
    c.in_ok-put_last.ensures
    ∙ ap (λ (ls : List RegLine). filter (λ other. not (other.register == line.register)) ls ++ line ∷ []) c.loop-line.invariant
    ∙ sym (ap last_lines next ∙ last_lines-more (take i lines) line)
