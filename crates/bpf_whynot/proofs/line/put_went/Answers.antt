use Rattle.std.proofs.Common.{◌∙◌, ℕ, List, sym, ap, subst}
use Rattle.counted_io.specs.Writing.{WritesAfter}
use Rattle.bpf_machine.specs.declared.moves.Move.{Move}
use Rattle.bpf_whynot.specs.Answers.{edited_text, went_text}
use Rattle.bpf_whynot.proofs.Going.{step_only, went_edit}
use Rattle.bpf_whynot.proofs.line.put_went.Goals as goal

pub returns-then-is_step : goal.returns-then-is_step
returns-then-is_step g c = λ m y step stood.
    subst (λ (n : Move). WritesAfter g.W.Write.contents c.args.writer.now c.args.so_far c.put_step_went.new.writer c.put_step_went.result (went_text c.args.cpu.now n y))
    (sym (step_only m (sym step ∙ c.if-is_step.true))) (c.put_step_went.ensures y stood)

pub returns-else-is_step : goal.returns-else-is_step
returns-else-is_step g c = λ m y step stood.
    subst (λ (text : List ℕ). WritesAfter g.W.Write.contents c.args.writer.now c.args.so_far c.put_edited.new.writer c.put_edited.result text)
    (ap (λ s. edited_text s.slot) stood ∙ sym (went_edit m c.args.cpu.now y (sym step ∙ c.if-is_step.false))) c.put_edited.ensures
