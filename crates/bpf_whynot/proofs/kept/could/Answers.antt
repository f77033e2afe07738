use Rattle.std.proofs.Common.{◌∙◌, sym}
use Rattle.bpf_whynot.proofs.Keeping.{could_none, could_some}
use Rattle.bpf_whynot.proofs.kept.could.Goals as goal

pub returns-in-Some : goal.returns-in-Some
returns-in-Some c = λ places wall are.
    could_some _ places wall c.args.cpu.now c.in-Some.insn (rw (c.program.ensures, c.from-slot.ensures, c.pc.ensures) at (sym c.insn_at.ensures ∙ c.in-Some.is))
    (rw (c.from-slot.ensures, c.pc.ensures) at (c.could_by.ensures c.args.cpu.now.program places wall are))

pub returns-in-None : goal.returns-in-None
returns-in-None c = λ places wall are. could_none places wall c.args.cpu.now (rw (c.program.ensures, c.from-slot.ensures, c.pc.ensures) at (sym c.insn_at.ensures ∙ c.in-None.is))
