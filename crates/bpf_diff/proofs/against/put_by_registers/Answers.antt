use Rattle.std.proofs.Common.{◌∙◌, arith, reverse, sym, take}
use Rattle.counted_io.proofs.Appending.{WritesAfter-text}
use Rattle.bpf_trace.specs.Runs.{steps_of}
use Rattle.input_texts.specs.declared.trace_form.Form.TheVariants.{Registers}
use Rattle.bpf_diff.proofs.Tracing.{end-text, end-told, goes-is, otherwise-if, otherwise-text, otherwise-told, over-is, over-text, over-told}
use Rattle.bpf_diff.proofs.against.put_by_registers.Goals as goal

pub returns-then-is_over-clause-text : goal.returns-then-is_over-clause-text
returns-then-is_over-clause-text g c =
    let h = c.follow_registers-halt.ensures.halts in
    let n = c.follow_registers-halt.result.steps in
    let a = c.follow_registers-halt.new.cpu in
    let over = over-is c.args.limit n a (sym c.is_over.ensures ∙ c.if-is_over.true) in
    WritesAfter-text g.W.Write.contents _ _ _ _ _ _ c.put_behind_end.ensures.text
    (end-text c.args.limit n a h.left _ c.follow_registers-halt.result.line h.next
    ∙ sym (over-text Registers c.args.limit c.args.cpu.now c.args.lines.now a h.left n h.along over))

pub returns-then-is_over-clause-told : goal.returns-then-is_over-clause-told
returns-then-is_over-clause-told g c =
    let h = c.follow_registers-halt.ensures.halts in
    let n = c.follow_registers-halt.result.steps in
    let a = c.follow_registers-halt.new.cpu in
    let over = over-is c.args.limit n a (sym c.is_over.ensures ∙ c.if-is_over.true) in
    c.put_behind_end.ensures.told
    ∙ end-told c.args.limit a h.left _ c.follow_registers-halt.result.line h.next
    ∙ over-told Registers c.args.limit c.args.cpu.now c.args.lines.now a h.left n h.along over

pub put_otherwise-requires : goal.put_otherwise-requires
put_otherwise-requires g c =
    let parts = goes-is c.args.limit c.follow_registers-halt.result.steps c.follow_registers-halt.new.cpu
    (sym c.is_over.ensures ∙ c.if-is_over.false) c.follow_registers-halt.ensures.halts.along.within in
    omega (arith, parts.0, c.ranges.limit.fits)

pub returns-else-is_over-clause-text : goal.returns-else-is_over-clause-text
returns-else-is_over-clause-text g c =
    let h = c.follow_registers-halt.ensures.halts in
    let n = c.follow_registers-halt.result.steps in
    let a = c.follow_registers-halt.new.cpu in
    let parts = goes-is c.args.limit n a (sym c.is_over.ensures ∙ c.if-is_over.false) h.along.within in
    let isnt = otherwise-if c.args.limit n a c.follow_registers-halt.result.line c.follow_registers-halt.ensures.stops parts.0 parts.1 in
    WritesAfter-text g.W.Write.contents _ _ _ _ _ _
    (c.put_otherwise.ensures (reverse (take n (steps_of c.args.limit c.args.cpu.now))) c.follow_registers-halt.ensures.notes)
    (otherwise-text Registers c.args.limit c.args.cpu.now c.args.lines.now a n c.follow_registers-halt.result.line _ h parts.0 parts.1 isnt)

pub returns-else-is_over-clause-told : goal.returns-else-is_over-clause-told
returns-else-is_over-clause-told g c =
    let h = c.follow_registers-halt.ensures.halts in
    let n = c.follow_registers-halt.result.steps in
    let a = c.follow_registers-halt.new.cpu in
    let parts = goes-is c.args.limit n a (sym c.is_over.ensures ∙ c.if-is_over.false) h.along.within in
    let isnt = otherwise-if c.args.limit n a c.follow_registers-halt.result.line c.follow_registers-halt.ensures.stops parts.0 parts.1 in
    otherwise-told Registers c.args.limit c.args.cpu.now c.args.lines.now a n c.follow_registers-halt.result.line _ h parts.0 parts.1 isnt
