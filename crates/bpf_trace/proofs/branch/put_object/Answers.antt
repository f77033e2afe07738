use Rattle.std.proofs.Common.{◌∙◌, codes}
use Rattle.counted_io.proofs.Appending.{WritesAfter-WritesAfter}
use Rattle.bpf_trace.proofs.Heads.{Held-more, object-end, member_is}
use Rattle.bpf_trace.proofs.branch.put_object.Goals as goal

pub returns-clause-text : goal.returns-clause-text
returns-clause-text g c =
    let way = rw (c.pc-from.ensures, c.pc.ensures) at c.way_member.ensures in
    let went = way ∙ member_is c.args.cpu.now c.step_on.new.cpu c.step_on.ensures in
    let one = Held-more g.W.Write.contents _ _ _ _ _ _ _ _ _ _ c.put_object_head-begun.ensures.text (rw went at c.put_long-went.ensures.text) in
    let held = Held-more g.W.Write.contents _ _ _ _ _ _ _ _ _ _ one c.put_long-placed.ensures.text in
    let all = rw (c.add-3.ensures, c.add-2.ensures, c.add.ensures, c.as_slice.ensures, c.add_operands.ensures.text, c.new-compared.ensures) at c.as_slice-2.ensures in
    WritesAfter-WritesAfter g.W.Write.contents _ _ _ _ _ _ _ _ _ held.written c.put.ensures
    (object-end held.told _ _ (codes ",\"parts\":[") _ (codes "]}\n") _ held.parts all)
