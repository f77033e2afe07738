use Rattle.std.proofs.Common.{◌≡◌, ℕ, Some, refl, ap, sym, ◌∙◌}
use Rattle.arrayvec.specs.ArrayVec.{ArrayVec}
use Rattle.bpf_journal.specs.Tracks.{Track}
use Rattle.bpf_origin.specs.Asked.{answer_about, parts_asked}
use Rattle.bpf_remote.specs.Origins.{question_of}
use Rattle.bpf_session.specs.Sessions.{HasPast}
use Rattle.counted_io.specs.Counted.{Tally}
use Rattle.bpf_remote.proofs.LineTexts.{if-ok, written}
use Rattle.bpf_remote.proofs.origin.answer_text.Goals as goal

pub returns-clause-text : goal.returns-clause-text
returns-clause-text g c =
    let x = c.args.session.now.moment.state in
    if-ok c.look_back-looked.result.written (λ _. (t : Track) → HasPast g.K.Keeper.holds c.args.session.now t → c.into_inner.result.items ≡ (answer_about (question_of c.args.places c.args.moves t) (parts_asked x c.args.what) t.history x).text) (λ u is t past.
    let there = rw (c.course_mut.ensures.value, c.kept.ensures t past, c.most_lines.ensures, c.as_slice.ensures.value, c.parts_asked-parts.ensures, c.cpu.ensures) at (c.look_back-looked.ensures.text t (rw (sym c.course_mut.ensures.value) at past)) in
    ap (λ (v : ArrayVec ℕ). v.items) c.into_inner.ensures
    ∙ written (λ (v : ArrayVec ℕ). Some v.items) _ _ _ _ _ _ _ there is
    (ap (λ (v : Tally (ArrayVec ℕ)). Some v.inner.items) c.new-writer.ensures ∙ ap Some c.new.ensures) refl)
