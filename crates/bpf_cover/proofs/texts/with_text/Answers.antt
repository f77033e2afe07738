use Rattle.std.proofs.Common.{◌++◌, ◌∙◌, Some, List, ℕ, ap}
use Rattle.counted_io.proofs.Appending.{Writes-none}
use Rattle.bpfdb_script.specs.Texts.{text_at}
use Rattle.bpf_cover.proofs.Making.{text_there}
use Rattle.bpf_cover.proofs.texts.with_text.Goals as goal

pub returns-in-Ok : goal.returns-in-Ok
returns-in-Ok c =
    let wrote = rw c.in-Ok.is at (c.put_at.ensures _ _ (Writes-none (λ v. Some v.items) c.new-writer.result _)) in
    ap (λ v. v.items) c.into_inner.ensures
    ∙ wrote.ok
    ∙ ap (λ w. w.inner.items ++ text_at c.args.program.now c.args.slot) c.new-writer.ensures
    ∙ ap (λ (text : List ℕ). c.args.bytes.items ++ text) (text_there c.args.program.now c.args.slot _ c.in-Some.ensures)
