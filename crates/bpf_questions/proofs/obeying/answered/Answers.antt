use Rattle.std.proofs.Common.{ap, ◌∙◌}
use Rattle.bpf_questions.specs.Conversations.{says}
use Rattle.bpf_questions.specs.declared.message.Kind.{Kind}
use Rattle.bpf_questions.proofs.obeying.answered.Goals as goal

pub returns-in-Ok : goal.returns-in-Ok
returns-in-Ok g c = λ t past.
    let w = rw c.in-Ok.is at (c.put.ensures _ _ (c.put_told-told.ensures t past)) in
    ap (λ (k : Kind). says k c.into_inner.result.items) c.kind_of.ensures
    ∙ ap (says _) (rw c.into_inner.ensures (rw (c.new-writer.ensures, c.new.ensures.items) at w.ok))
