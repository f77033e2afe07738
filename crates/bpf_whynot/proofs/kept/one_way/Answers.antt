use Rattle.std.proofs.Common.{◌∙◌, sym}
use Rattle.bpf_whynot.proofs.Keeping.{by_next, by_none, by_target}
use Rattle.bpf_whynot.proofs.kept.one_way.Goals as goal

pub returns-then-is_flagged : goal.returns-then-is_flagged
returns-then-is_flagged c = λ program places wall are.
    by_next program places wall c.args.marks.now are c.args.at c.args.insn.now (sym c.is_flagged.ensures ∙ c.if-is_flagged.true)

pub returns-in-Some : goal.returns-in-Some
returns-in-Some c = λ program places wall are.
    rw c.is_flagged-in-Some.ensures
    (by_target program places wall c.args.marks.now are c.args.at c.in-Some.target c.args.insn.now (sym c.is_flagged.ensures ∙ c.if-is_flagged.false)
    (sym c.target_slot.ensures ∙ c.in-Some.is))

pub returns-in-None : goal.returns-in-None
returns-in-None c = λ program places wall are.
    by_none program places wall c.args.marks.now are c.args.at c.args.insn.now (sym c.is_flagged.ensures ∙ c.if-is_flagged.false)
    (sym c.target_slot.ensures ∙ c.in-None.is)
