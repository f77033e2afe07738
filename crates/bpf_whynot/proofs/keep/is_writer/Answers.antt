use Rattle.std.proofs.Common.{◌∙◌, sym}
use Rattle.std.specs.Prelude.{Some}
use Rattle.bpf_whynot.proofs.Keeping.{all_held, writes_by, writes_no_wall, writes_nothing}
use Rattle.bpf_whynot.proofs.keep.is_writer.Goals as goal

pub returns-then-values-eq0 : goal.returns-then-values-eq0
returns-then-values-eq0 c = writes_nothing c.args.program.now c.args.values c.args.wanted.now c.args.wall c.args.p c.if-values-eq0.true

pub returns-then-p-slot : goal.returns-then-p-slot
returns-then-p-slot c = writes_no_wall c.args.program.now _ c.args.wall c.args.p c.if-p-slot.true

pub returns-in-Some : goal.returns-in-Some
returns-in-Some c =
    rw (c.are_hit.ensures, c.as_slice.ensures.value, c.may_write.ensures, all_held c.args.values c.args.wanted.now c.if-values-eq0.false)
    (writes_by c.args.program.now c.args.wanted.now c.args.wall c.args.p (Some c.in-Some.insn) c.if-p-slot.false (sym c.insn_at.ensures ∙ c.in-Some.is))

pub returns-in-None : goal.returns-in-None
returns-in-None c = writes_by c.args.program.now _ c.args.wall c.args.p _ c.if-p-slot.false (sym c.insn_at.ensures ∙ c.in-None.is)
