use Rattle.std.proofs.Common.{codes, decimal, refl}
use Rattle.bpfdb_script.specs.SlotTexts.{text_of_slot}
use Rattle.bpfdb_script.specs.Texts.{text_at}
use Rattle.bpfdb_script.proofs.Telling.{WritesAfter-nothing}
use Rattle.counted_io.proofs.Appending.{WritesAfter-WritesAfter, WritesAfter-text}
use Rattle.bpf_trace.proofs.Counting.{count_there, count_nowhere}
use Rattle.bpf_trace.proofs.profile.put_count.Goals as goal

pub returns-in-Some : goal.returns-in-Some
returns-in-Some g c =
    let after = WritesAfter-WritesAfter g.W.Write.contents in
    let p = c.args.program.now in
    let one = after _ _ _ _ _ _ (decimal c.args.count) (codes " ") _ c.put_decimal-counted.ensures c.put-parted.ensures refl in
    let two = after _ _ _ _ _ _ _ (text_at p c.args.slot) _ one c.put_at-named.ensures refl in
    let three = after _ _ _ _ _ _ _ (text_of_slot c.args.texts c.args.slot) _ two (rw c.text_of_slot.ensures at c.put-told.ensures) refl in
    after _ _ _ _ _ _ _ (codes "\n") _ three c.put.ensures (count_there c.args.texts p c.args.slot c.args.count _ c.in-Some.ensures)

pub returns-in-None : goal.returns-in-None
returns-in-None g c =
    WritesAfter-text g.W.Write.contents _ _ _ _ _ _ (WritesAfter-nothing g.W.Write.contents c.args.writer.now c.args.so_far)
    (count_nowhere c.args.texts c.args.program.now c.args.slot c.args.count c.in-None.ensures)
