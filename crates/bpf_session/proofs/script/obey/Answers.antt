use Rattle.std.proofs.Common.{Ok, ap, sym, ◌∙◌}
use Rattle.bpf_session.proofs.Obeying.{fails-once, obeys-command, obeys-refused}
use Rattle.bpf_session.proofs.script.obey.Goals as goal
use Rattle.bpf_session.proofs.script.obey.Goals.{in-Ok-Some+else-is_quit, in-Err}

pub returns-clause-fault : goal.returns-clause-fault
returns-clause-fault g c = elim c.match-said_by.branch [
  | in-Ok-Some+else-is_quit w ↦
      let st = w.apply-answer.ensures.stands c.invariant.ensures.track c.invariant.ensures.follows in
      fails-once _ _ _ _ (rw (w.session-is, w.answer-is) at c.write_answer.ensures.value _ st.1)
  | in-Err w ↦ fails-once _ _ _ _ (rw (w.session-is, w.answer-is) at c.write_answer.ensures.value _ c.invariant.ensures.follows)
]

pub returns-clause-value : goal.returns-clause-value
returns-clause-value g c = λ h text past held. elim c.match-said_by.branch [
  | in-Ok-Some+else-is_quit w ↦
      rw (w.session-is) (obeys-command _ _ _ _ _ _ _ _ h text _ _ _ past
      (sym (w.in-Ok-Some.is ∙ ap Ok w.in-Ok-Some.field-0-is) ∙ c.said_by.ensures text held)
      (sym w.is_quit.ensures ∙ w.if-is_quit.false)
      w.apply-answer.ensures
      (rw (w.session-is, w.answer-is) at c.write_answer.ensures.value) c.write_answer.ensures.ok)
  | in-Err w ↦
      rw (w.session-is) (obeys-refused _ _ _ _ _ _ _ h text _ _ past (sym w.in-Err.is ∙ c.said_by.ensures text held)
      (rw (w.session-is, w.answer-is) at c.write_answer.ensures.value) c.write_answer.ensures.ok)
]
