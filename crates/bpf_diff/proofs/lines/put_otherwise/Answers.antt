use Rattle.std.proofs.Common.{◌++◌, append_assoc, codes, refl}
use Rattle.counted_io.proofs.Appending.{WritesAfter-WritesAfter}
use Rattle.bpf_trace.specs.Traces.{step_line}
use Rattle.bpfdb_script.specs.SlotTexts.{text_of_slot}
use Rattle.bpf_diff.specs.Differences.{heading}
use Rattle.bpf_diff.proofs.lines.put_otherwise.Goals as goal

pub returns : goal.returns
returns g c = λ x y t u.
    let half = WritesAfter-WritesAfter g.W.Write.contents _ _ _ _ _ _ _ _ _ c.put_heading-headed.ensures (c.put_side-half.ensures x t) refl in
    WritesAfter-WritesAfter g.W.Write.contents _ _ _ _ _ _ _ _ _ half (c.put_side.ensures y u)
    (append_assoc (heading c.args.number (codes " wrote otherwise\n")) (codes "< " ++ step_line (text_of_slot c.args.texts.first x.pc) c.args.number x)
    (codes "> " ++ step_line (text_of_slot c.args.texts.second y.pc) c.args.number y))
