use Rattle.bpf_suite.proofs.RegValues.{edit-reg}
use Rattle.bpf_suite.proofs.regs.set_reg.Goals as goal

pub returns : goal.returns
returns c =
    edit-reg c.args.cpu.now c.edit-done.new.self c.args.line.now c.edit-done.result c.edit-done.ensures.ok c.edit-done.ensures.next c.edit-done.ensures.err
