use Rattle.std.proofs.Common.{◌∙◌, ap, sym}
use Rattle.bpf_lines.specs.Functions.{begins_in}
use Rattle.bpf_lines.proofs.Marking.{function_is, function_not, marks_stay}
use Rattle.bpf_lines.proofs.functions.with_function.Goals as goal

pub returns-then-not-is_function-clause-marked : goal.returns-then-not-is_function-clause-marked
returns-then-not-is_function-clause-marked c = λ old.
    marks_stay (begins_in c.args.plan.now c.args.section) c.args.i c.args.marks.items
    (function_not c.args.plan.now c.args.section c.args.i (sym (rw c.at-symbol.ensures at c.is_function.ensures) ∙ c.if-not-is_function.true)) old

pub returns-clause-marked : goal.returns-clause-marked
returns-clause-marked c =
    c.with_mark.ensures.same (begins_in c.args.plan.now c.args.section)
    (function_is c.args.plan.now c.args.section c.args.i _ (ap (λ s. s.value) c.at-symbol.ensures)
    (sym (rw c.at-symbol.ensures at c.is_function.ensures) ∙ c.if-not-is_function.false))
