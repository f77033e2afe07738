use Rattle.std.proofs.Common.{◌∙◌}
use Rattle.counted_io.proofs.Appending.{WritesAfter-text}
use Rattle.bpf_trace.proofs.Heads.{slot_before, step_line_is, step_object_is}
use Rattle.bpf_trace.proofs.Steps.{slot_within, text_is}
use Rattle.bpf_trace.proofs.step.put_step.Goals as goal

pub at-text-requires : goal.at-text-requires
at-text-requires g c =
    let slot = c.from.ensures ∙ c.pc-slot.ensures in
    rw slot (slot_within c.args.cpu.now.program c.args.texts.now c.args.cpu.now.pc c.requires.texts c.invariant.ensures.start)

pub put_object-requires : goal.put_object-requires
put_object-requires g c =
    let x = c.args.cpu.now in
    let text = rw (c.from.ensures ∙ c.pc-slot.ensures) at c.at-text.ensures in
    let named = text ∙ text_is x.program c.args.texts.now x.pc c.requires.texts c.invariant.ensures.start in
    rw c.pc-slot.ensures (slot_before x.program x.pc _ named)

pub returns-in-Text-clause-text : goal.returns-in-Text-clause-text
returns-in-Text-clause-text g c =
    let x = c.args.cpu.now in
    let change = rw c.in-Ok.is at c.look.ensures.ok in
    let text = rw (c.from.ensures ∙ c.pc-slot.ensures) at c.at-text.ensures in
    let named = text ∙ text_is x.program c.args.texts.now x.pc c.requires.texts c.invariant.ensures.start in
    rw c.in-Text.is (WritesAfter-text g.W.Write.contents _ _ _ _ _ _ (rw change at c.put_line.ensures)
    (step_line_is c.args.row.now.number x c.commit.new.self _ c.args.row.now.place.now c.invariant.ensures c.commit.ensures named))

pub returns-in-Json-clause-text : goal.returns-in-Json-clause-text
returns-in-Json-clause-text g c =
    let x = c.args.cpu.now in
    let change = rw c.in-Ok.is at c.look.ensures.ok in
    let text = rw (c.from.ensures ∙ c.pc-slot.ensures) at c.at-text.ensures in
    let named = text ∙ text_is x.program c.args.texts.now x.pc c.requires.texts c.invariant.ensures.start in
    rw c.in-Json.is (WritesAfter-text g.W.Write.contents _ _ _ _ _ _ (rw change at c.put_object.ensures)
    (step_object_is c.args.row.now.number c.pc-slot.result x c.commit.new.self _ c.args.row.now.place.now c.invariant.ensures c.commit.ensures c.pc-slot.ensures named))
