use Rattle.std.proofs.Common.{◌≡◌, ℕ, Bool, List, Option, Some, false, length, refl, ap, subst, sym, ◌∙◌}
use Rattle.std.specs.Prelude.{◌==◌}
use Rattle.arrayvec.specs.ArrayVec.{ArrayVec}
use Rattle.bpf_journal.specs.Tracks.{CourseValue, Track}
use Rattle.bpf_remote.specs.Origins.{most_lines}
use Rattle.bpf_steps.specs.State.{State}
use Rattle.bpf_remote.specs.Whynots.{query_of}
use Rattle.bpf_session.specs.Sessions.{HasPast}
use Rattle.bpf_whynot.specs.Answers.{why_not}
use Rattle.bpf_whynot.specs.Makings.{goals_left}
use Rattle.bpf_whynot.specs.Tables.{AreGoals, told_by}
use Rattle.bpf_whynot.specs.declared.made.Made.{Made}
use Rattle.counted_io.specs.Counted.{Tally}
use Rattle.bpf_remote.proofs.LineTexts.{if-ok, written}
use Rattle.bpf_remote.proofs.whynot.why_text.Goals as goal

pub returns-clause-back : goal.returns-clause-back
returns-clause-back g c = λ asked aims.
    let s = c.args.session.now in
    let way = c.invariant.ensures in
    let left = goals_left aims.0 way.track.history in
    let aim = aims.2 way.track.history way.follows.history in
    let flags = subst (λ (flags : List Bool). AreGoals s.moment.state.program left flags) (sym c.as_slice.ensures.value) aim.flags in
    let back = rw c.course_mut.ensures.value at (c.look_why-looked.ensures.back s.moment.state.program left flags) in
    record {
      rest = refl;
      bounds = ap (λ (n : ℕ). record { limit = s.limit; room = n }) back.size;
      stands = λ t past. back.stands t past;
      leaves = back.leaves;
    }

pub returns-clause-text : goal.returns-clause-text
returns-clause-text g c = λ asked aims.
    let s = c.args.session.now in
    let x = s.moment.state in
    if-ok c.look_why-looked.result.written (λ _. (t : Track) → HasPast g.K.Keeper.holds s t → c.into_inner.result.items
    ≡ (why_not (told_by c.args.aim.now.reach) (query_of c.args.places c.args.moves aims.0 t x) t.history x).text) (λ u is t past.
    let left = goals_left aims.0 t.history in
    let aim = aims.2 t.history past.history in
    let flags = subst (λ (flags : List Bool). AreGoals x.program left flags) (sym c.as_slice.ensures.value) aim.flags in
    let can = told_by c.args.aim.now.reach in
    let asks = λ (lines kept : ℕ) (made : Option Made) (y : State). (why_not can
    (record { goals = left; made = made; question = record { addresses = false; lines = lines; opening = kept == c.args.moves; places = c.args.places }; alone = false })
    t.history y).text in
    ap (λ (v : ArrayVec ℕ). v.items) c.into_inner.ensures
    ∙ written (λ (v : ArrayVec ℕ). Some v.items) _ _ _ _ _ _ _ (c.look_why-looked.ensures.text x.program left flags t (rw (sym c.course_mut.ensures.value) at past)) is
    (ap (λ (v : Tally (ArrayVec ℕ)). Some v.inner.items) c.new-writer.ensures ∙ ap Some c.new.ensures) refl
    ∙ ap (λ (y : CourseValue _). asks c.most_lines.result c.kept.result c.args.aim.now.made y.state) c.course_mut.ensures.value
    ∙ ap (λ (n : ℕ). asks n c.kept.result c.args.aim.now.made x) c.most_lines.ensures
    ∙ ap (λ (n : ℕ). asks (most_lines c.args.places) n c.args.aim.now.made x) (c.kept.ensures t past)
    ∙ ap (λ (m : Option Made). asks (most_lines c.args.places) (length t.history) m x) aim.made)
