use Rattle.bpf_suite.proofs.Images.{edit-run}
use Rattle.bpf_suite.proofs.image.put_run.Goals as goal

pub returns : goal.returns
returns c =
    edit-run c.args.cpu.now c.edit-done.new.self c.args.run.now.address c.copied.result c.args.run.now.bytes c.edit-done.result c.copied.ensures c.edit-done.ensures.next
    c.edit-done.ensures.err
