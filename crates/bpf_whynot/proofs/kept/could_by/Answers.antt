use Rattle.bpf_whynot.proofs.Keeping.{jump_could}
use Rattle.bpf_whynot.proofs.kept.could_by.Goals as goal

pub returns-in-JumpIf : goal.returns-in-JumpIf
returns-in-JumpIf c = λ program places wall are.
    jump_could _ program places wall c.args.at c.args.insn.now _ _ _ _ _ c.in-JumpIf.is (c.one_way.ensures program places wall are)
