use Rattle.std.proofs.Common.{◌≡◌, ℕ, Some, refl, ap, ◌∙◌}
use Rattle.arrayvec.specs.ArrayVec.{ArrayVec}
use Rattle.counted_io.specs.Counted.{Tally}
use Rattle.bpf_remote.specs.Origins.{refused_line}
use Rattle.bpf_remote.proofs.LineTexts.{if-ok, written}
use Rattle.bpf_remote.proofs.OriginTexts.{fitting}
use Rattle.bpf_remote.proofs.origin.show_refused.Goals as goal

pub returns : goal.returns
returns g c =
    let s = c.show_text.ensures in
    let told = refused_line c.args.begin.now c.args.number c.args.text.now in
    let line = if-ok c.put_refused-written.result (λ _. c.into_inner-text.result.items ≡ told) (λ x is.
    ap (λ (v : ArrayVec ℕ). v.items) c.into_inner-text.ensures
    ∙ written (λ (v : ArrayVec ℕ). Some v.items) _ _ _ _ _ _ _ c.put_refused-written.ensures is
    (ap (λ (v : Tally (ArrayVec ℕ)). Some v.inner.items) c.new-line.ensures ∙ ap Some c.new.ensures) refl) in
    (s.0, s.1, s.2, fitting (λ _. c.into_inner-text.result.items) c.put_refused-written.result _ told (rw c.as_slice.ensures.value at s.3) line, s.4)
