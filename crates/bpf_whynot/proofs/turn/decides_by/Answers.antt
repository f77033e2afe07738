use Rattle.bpf_whynot.proofs.Turning.{jump_decides}
use Rattle.bpf_whynot.proofs.turn.decides_by.Goals as goal

pub returns-in-JumpIf : goal.returns-in-JumpIf
returns-in-JumpIf c = λ program slot sure.
    jump_decides _ program slot c.args.at c.args.insn.now _ _ _ _ _ c.in-JumpIf.is (c.parts.ensures program slot sure)
