use Rattle.std.proofs.Common.{Ok, length}
use Rattle.bpf_link.specs.Images.{with_pointer}
use Rattle.bpf_link.proofs.Steps.{fails, one_more}
use Rattle.bpf_link.proofs.image.with_pointers.Goals as goal

pub returns-in-Err-clause-err : goal.returns-in-Err-clause-err
returns-in-Err-clause-err c =
    fails (with_pointer c.args.placed.now c.args.relocations.now) c.args.image.items c.loop-i.i (length c.args.relocations.now)
    c.loop-i.all.items c.in-Err.fault (rw c.len-i-end.ensures at c.loop-i-test.true) c.loop-i.invariant c.in-Err.ensures.err

pub loop-i-preserved : goal.loop-i-preserved
loop-i-preserved c =
    one_more (with_pointer c.args.placed.now c.args.relocations.now) c.args.image.items c.loop-i.i
    c.loop-i.all.items (Ok c.in-Ok.new.items) c.loop-i.invariant c.in-Ok.ensures.ok
