use Rattle.std.proofs.Common.{◌∙◌, sym}
use Rattle.bpfdb_script.proofs.Telling.{WritesAfter-nothing}
use Rattle.counted_io.proofs.Appending.{WritesAfter-text}
use Rattle.bpf_trace.proofs.Branching.{branch_line_is, no_row}
use Rattle.bpf_trace.proofs.Heads.{branch_object_is, slot_before}
use Rattle.bpf_trace.proofs.Steps.{slot_within, text_is}
use Rattle.bpf_trace.proofs.branch.put_branch.Goals as goal

pub returns-then-not-is_branch-clause-text : goal.returns-then-not-is_branch-clause-text
returns-then-not-is_branch-clause-text g c =
    let slot = c.from.ensures ∙ c.pc-slot.ensures in
    let here = rw (c.program.ensures, slot) at c.in-Some.ensures in
    WritesAfter-text g.W.Write.contents _ _ _ _ _ _ (WritesAfter-nothing g.W.Write.contents c.args.writer.now c.args.so_far)
    (no_row c.args.row.now.form c.args.row.now.place.now c.args.row.now.number c.args.cpu.now c.in-Some.insn (sym here) (sym c.is_branch.ensures ∙ c.if-not-is_branch.true))

pub at-text-requires : goal.at-text-requires
at-text-requires g c =
    let slot = c.from-in-Some.ensures ∙ c.pc-slot.ensures in
    rw slot (slot_within c.args.cpu.now.program c.args.texts.now c.args.cpu.now.pc c.requires.texts c.invariant.ensures.start)

pub put_object-requires-clause-slot : goal.put_object-requires-clause-slot
put_object-requires-clause-slot g c =
    let x = c.args.cpu.now in
    let text = rw (c.from-in-Some.ensures ∙ c.pc-slot.ensures) at c.at-text.ensures in
    let named = text ∙ text_is x.program c.args.texts.now x.pc c.requires.texts c.invariant.ensures.start in
    rw c.pc-slot.ensures (slot_before x.program x.pc _ named)

pub returns-in-Text-clause-text : goal.returns-in-Text-clause-text
returns-in-Text-clause-text g c =
    let x = c.args.cpu.now in
    let here = rw (c.program.ensures, c.from.ensures ∙ c.pc-slot.ensures) at c.in-Some.ensures in
    let text = rw (c.from-in-Some.ensures ∙ c.pc-slot.ensures) at c.at-text.ensures in
    let named = text ∙ text_is x.program c.args.texts.now x.pc c.requires.texts c.invariant.ensures.start in
    rw c.in-Text.is (WritesAfter-text g.W.Write.contents _ _ _ _ _ _ c.put_jump.ensures.text
    (branch_line_is c.args.row.now.place.now c.args.row.now.number x c.in-Some.insn _ (sym here) (sym c.is_branch.ensures ∙ c.if-not-is_branch.false) named))

pub returns-in-Json-clause-text : goal.returns-in-Json-clause-text
returns-in-Json-clause-text g c =
    let x = c.args.cpu.now in
    let here = rw (c.program.ensures, c.from.ensures ∙ c.pc-slot.ensures) at c.in-Some.ensures in
    let text = rw (c.from-in-Some.ensures ∙ c.pc-slot.ensures) at c.at-text.ensures in
    let named = text ∙ text_is x.program c.args.texts.now x.pc c.requires.texts c.invariant.ensures.start in
    rw c.in-Json.is (WritesAfter-text g.W.Write.contents _ _ _ _ _ _ c.put_object.ensures.text
    (branch_object_is c.args.row.now.number c.pc-slot.result x c.in-Some.insn _ c.args.row.now.place.now (sym here) (sym c.is_branch.ensures ∙ c.if-not-is_branch.false) c.pc-slot.ensures named))
