use Rattle.std.proofs.Common.{◌∙◌, sym}
use Rattle.bpf_origin.proofs.line.put_if_call.Goals as goal

pub returns-in-Some-CallLocal : goal.returns-in-Some-CallLocal
returns-in-Some-CallLocal g c = λ first front known.
    rw (rw (c.program.ensures, c.from.ensures ∙ c.pc.ensures) at (sym c.insn_at.ensures ∙ c.in-Some-CallLocal.is))
    (rw c.in-Some-CallLocal.field-0-is (c.put.ensures first front known))
