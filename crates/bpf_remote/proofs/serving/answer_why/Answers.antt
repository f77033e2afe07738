use Rattle.std.proofs.Common.{[], ◌∷◌, refl, sym}
use Rattle.bpf_remote.proofs.WhyTexts.{tells-goals, tells-none}
use Rattle.bpf_remote.proofs.serving.answer_why.Goals as goal

pub returns-in-Ok : goal.returns-in-Ok
returns-in-Ok g c = λ asked digits aimed before.
    let s = c.show_answered-told.ensures.shows in
    let answered = c.why_text in
    let aims = rw c.in-Ok.is at aimed in
    record {
      last = 79 ∷ 75 ∷ [];
      told = _;
      done = (
        c.show_answered-told.result.1,
        s.0,
        s.1,
        s.2,
        tells-goals _ _ _ (λ _. answered.result.text.items) answered.result.written c.args.talk.now.manners asked _ _ c.in-Ok.aim _ _ aims
            (rw (sym c.show_answered-told.ensures.left) at (answered.ensures.back asked aims)) (answered.ensures.text asked aims) s.3,
        c.put_done.ensures.manners,
        refl,
        refl,
        refl,
      );
      held = c.put_done.ensures.held;
      written = c.put_done.ensures.written _ _ (s.4 _ _ c.acknowledge-begun.ensures);
    }

pub returns-in-Err : goal.returns-in-Err
returns-in-Err g c = λ asked digits aimed before.
    let s = c.show_aim_refusal-told.ensures in
    record {
      last = 79 ∷ 75 ∷ [];
      told = _;
      done = (
        0,
        s.0,
        s.1,
        s.2,
        tells-none _ _ _ c.in-Err.fault c.args.talk.now.manners asked _ _ (rw c.in-Err.is at aimed) s.3,
        c.put_done-in-Err.ensures.manners,
        refl,
        refl,
        refl,
      );
      held = c.put_done-in-Err.ensures.held;
      written = c.put_done-in-Err.ensures.written _ _ (s.4 _ _ c.acknowledge-begun.ensures);
    }
