use Rattle.bpf_suite.specs.Shown.{reg_command}
use Rattle.bpf_suite.proofs.shown.put_reg_command.Goals as goal

pub returns : goal.returns
unfolding reg_command
returns g c = λ first front known. rw (c.from-register.ensures, c.number.ensures.value) at (c.put_all.ensures first front known)
