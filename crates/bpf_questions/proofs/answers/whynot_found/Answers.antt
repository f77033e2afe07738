use Rattle.std.proofs.Common.{◌≡◌, ◌∙◌, ℕ, Bool, List, Option, false, refl, ap, subst, sym}
use Rattle.bpf_journal.specs.Tracks.{CourseValue}
use Rattle.bpf_origin.specs.declared.question.Question.{Question}
use Rattle.bpf_steps.specs.State.{State}
use Rattle.bpf_whynot.specs.Answers.{why_not}
use Rattle.bpf_whynot.specs.Makings.{goals_left}
use Rattle.bpf_whynot.specs.Tables.{AreGoals, told_by}
use Rattle.bpf_whynot.specs.declared.made.Made.{Made}
use Rattle.counted_io.proofs.Appending.{Writes-none}
use Rattle.bpf_questions.specs.Conversations.{question_of}
use Rattle.bpf_questions.proofs.answers.whynot_found.Goals as goal

pub returns-in-Ok-clause-back : goal.returns-in-Ok-clause-back
returns-in-Ok-clause-back g c = λ asked aims.
    let s = c.args.session.now in
    let way = c.invariant.ensures in
    let left = goals_left aims.0 way.track.history in
    let aim = aims.2 way.track.history way.follows.history in
    let flags = subst (λ (flags : List Bool). AreGoals s.moment.state.program left flags) (sym c.as_slice.ensures.value) aim.flags in
    let back = rw c.course_mut.ensures.value at (c.look_why-looked.ensures.back s.moment.state.program left flags) in
    record {
      rest = refl;
      bounds = ap (λ (n : ℕ). record { limit = s.limit; room = n }) back.size;
      stands = λ t past. back.stands t past;
      leaves = back.leaves;
    }

pub returns-in-Ok-clause-text : goal.returns-in-Ok-clause-text
returns-in-Ok-clause-text g c = λ asked aims t past.
    let x = c.args.session.now.moment.state in
    let left = goals_left aims.0 t.history in
    let aim = aims.2 t.history past.history in
    let flags = subst (λ (flags : List Bool). AreGoals x.program left flags) (sym c.as_slice.ensures.value) aim.flags in
    let there = c.look_why-looked.ensures.text x.program left flags t (rw (sym c.course_mut.ensures.value) at past) in
    let w = rw c.in-Ok.is at (there _ _ (Writes-none _ c.new-writer.result _)) in
    let asks = λ (q : Question) (made : Option Made) (y : State). (why_not (told_by c.args.aim.now.reach)
    (record { goals = left; made = made; question = q; alone = false }) t.history y).text in
    rw c.into_inner.ensures (rw (c.new-writer.ensures, c.new.ensures.items) at w.ok)
    ∙ ap (λ (y : CourseValue _). asks c.question_of.result c.args.aim.now.made y.state) c.course_mut.ensures.value
    ∙ ap (λ (q : Question). asks q c.args.aim.now.made x) (c.question_of.ensures t past)
    ∙ ap (λ (m : Option Made). asks (question_of c.args.view.now c.args.moves t) m x) aim.made
