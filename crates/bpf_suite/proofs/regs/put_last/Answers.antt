use Rattle.std.proofs.Common.{◌==◌, ◌++◌, ◌∷◌, [], List, not, ap, ◌∙◌, rules, tests}
use Rattle.bpf_suite.specs.declared.regs.RegLine.{RegLine}
use Rattle.bpf_suite.proofs.Lists.{filter-kept}
use Rattle.bpf_suite.proofs.regs.put_last.Goals as goal

pub returns-in-Ok : goal.returns-in-Ok
returns-in-Ok c =
    let line = c.args.line.now in
    let kept = filter-kept _ (λ (other : RegLine). not (other.register == line.register)) _ (λ x b q called. search (rules, tests)) _ _ c.retain.ensures.filtered in
    c.in-Ok.ensures.items ∙ ap (λ (ls : List RegLine). ls ++ line ∷ []) kept
