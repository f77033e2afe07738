use Rattle.std.proofs.Common.{List, ap, sym, ◌∙◌}
use Rattle.std.proofs.lemmas.List.{with_items_is}
use Rattle.bpf_cover.specs.declared.coverage.Mark.{Mark}
use Rattle.bpf_cover.proofs.Marks.{covered-by, covered-more}
use Rattle.bpf_cover.proofs.coverage.Coverage.run.Goals as goal

pub returns-clause-marks : goal.returns-clause-marks
returns-clause-marks c = λ program xs e.
    let m = rw c.deref_mut.ensures.value at c.mark_steps.ensures.marks in
    let same = with_items_is c.self.inside.marks c.mark_steps.new.marks (m.size ∙ sym c.self.inside.marks.ok.0) in
    ap (λ (ms : List Mark). covered-by ms c.self.inside.texts) same ∙ covered-more program xs _ _ _ _ _ c.self.view_is e m
