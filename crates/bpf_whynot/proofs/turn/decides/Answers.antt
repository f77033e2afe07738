use Rattle.std.proofs.Common.{◌∙◌, sym}
use Rattle.bpf_whynot.proofs.Turning.{decides_none, decides_some}
use Rattle.bpf_whynot.proofs.turn.decides.Goals as goal

pub returns-in-Some : goal.returns-in-Some
returns-in-Some c = λ slot y sure.
    decides_some _ slot c.args.cpu.now y c.in-Some.insn (rw (c.program.ensures, c.from-slot.ensures, c.pc.ensures) at (sym c.insn_at.ensures ∙ c.in-Some.is))
    (rw (c.from-slot.ensures, c.pc.ensures) at (c.decides_by.ensures c.args.cpu.now.program slot sure))

pub returns-in-None : goal.returns-in-None
returns-in-None c = λ slot y sure. decides_none slot c.args.cpu.now y (rw (c.program.ensures, c.from-slot.ensures, c.pc.ensures) at (sym c.insn_at.ensures ∙ c.in-None.is))
