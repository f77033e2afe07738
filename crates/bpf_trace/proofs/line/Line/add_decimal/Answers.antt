use Rattle.std.proofs.Common.{◌++◌, ◌∙◌, List, ℕ, ap, sym}
use Rattle.std.proofs.lemmas.Fmt.{decimal_digit}
use Rattle.bpf_trace.proofs.line.Line.add_decimal.Goals as goal

pub returns-then-value-lt10-clause-text : goal.returns-then-value-lt10-clause-text
returns-then-value-lt10-clause-text c = c.add.ensures ∙ ap (λ (digits : List ℕ). c.args.self.now ++ digits) (sym (decimal_digit c.args.value c.if-value-lt10.true))
