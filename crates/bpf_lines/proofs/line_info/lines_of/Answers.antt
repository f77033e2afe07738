use Rattle.std.proofs.Common.{ℕ, Bool, true, sym, subst}
use Rattle.std.proofs.lemmas.Result.{IfOk-weaker}
use Rattle.bpf_lines.specs.LineInfo.{line_at}
use Rattle.bpf_lines.specs.Marks.{AreMarks, last_named}
use Rattle.bpf_lines.proofs.line_info.lines_of.Goals as goal

pub returns-in-None-clause-ok : goal.returns-in-None-clause-ok
returns-in-None-clause-ok c =
    IfOk-weaker c.no_marks.result (λ marks. (names : ℕ → ℕ → Bool) → AreMarks (last_named names 0) marks.items) _
    (λ marks none. subst (λ block. AreMarks (line_at c.args.listed.now block) marks.items) (sym c.in-None.is) (none (λ slot i. true)))
    c.no_marks.ensures.ok
