use Rattle.std.proofs.Common.{[], ◌∷◌, refl, sym}
use Rattle.bpf_remote.proofs.OriginTexts.{tells-answer}
use Rattle.bpf_remote.proofs.serving.answer_asked.Goals as goal

pub returns-in-Ok : goal.returns-in-Ok
returns-in-Ok g c = λ digits before.
    let s = c.show_answered-told.ensures.shows in
    let answered = c.answer_text in
    let tells = tells-answer _ _ _ (λ _. answered.result.text.items) answered.result.written c.args.talk.now.manners _ _ _ _ _
    (rw (sym c.show_answered-told.ensures.left) at answered.ensures.back) answered.ensures.text s.3
    in
    record {
      last = 79 ∷ 75 ∷ [];
      told = _;
      done = (c.show_answered-told.result.1, s.0, s.1, s.2, rw c.in-Ok.is tells, c.put_done.ensures.manners, refl, refl, refl);
      held = c.put_done.ensures.held;
      written = c.put_done.ensures.written _ _ (s.4 _ _ c.acknowledge-begun.ensures);
    }

pub returns-in-Err : goal.returns-in-Err
returns-in-Err g c = λ digits before.
    let s = c.show_refused-told.ensures in
    record {
      last = 79 ∷ 75 ∷ [];
      told = _;
      done = (0, s.0, s.1, s.2, rw c.in-Err.is (refl, refl, rw (c.number-number.ensures, c.text-text.ensures) at s.3), c.put_done-in-Err.ensures.manners, refl, refl, refl);
      held = c.put_done-in-Err.ensures.held;
      written = c.put_done-in-Err.ensures.written _ _ (s.4 _ _ c.acknowledge-begun.ensures);
    }
