use Rattle.std.proofs.Common.{◌++◌, ◌∙◌, List, ap, ℕ}
use Rattle.counted_io.proofs.Appending.{WritesAfter-WritesAfter}
use Rattle.bpf_trace.specs.Traces.{step_line}
use Rattle.bpfdb_script.specs.SlotTexts.{text_of_slot}
use Rattle.bpf_diff.proofs.lines.put_side.Goals as goal

pub returns : goal.returns
returns g c = λ x t.
    let told = c.text_of_slot-place.ensures ∙ ap (text_of_slot c.args.texts) (c.from.ensures ∙ t.slot) in
    WritesAfter-WritesAfter g.W.Write.contents _ _ _ _ _ _ _ _ _ c.put-marked.ensures (c.put_taken.ensures x t)
    (ap (λ (text : List ℕ). c.args.mark.now ++ step_line text c.args.number x) told)
