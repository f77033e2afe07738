use Rattle.std.proofs.Common.{ℕ, Some, refl, ap, ◌∙◌}
use Rattle.arrayvec.specs.ArrayVec.{ArrayVec}
use Rattle.counted_io.specs.Counted.{Tally}
use Rattle.bpf_remote.proofs.LineTexts.{written-all}
use Rattle.bpf_remote.proofs.obeying.line_text.Goals as goal

pub returns-in-Ok : goal.returns-in-Ok
returns-in-Ok c =
    ap (λ (v : ArrayVec ℕ). v.items) c.into_inner.ensures
    ∙ written-all (λ (v : ArrayVec ℕ). Some v.items) _ _ _ _ _ _ (c.put.ensures _ _ c.write_remark-told.ensures) c.in-Ok.is
    (ap (λ (v : Tally (ArrayVec ℕ)). Some v.inner.items) c.new-writer.ensures ∙ ap Some c.new.ensures) refl
