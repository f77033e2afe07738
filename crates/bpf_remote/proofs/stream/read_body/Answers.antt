use Rattle.std.proofs.Common.{Ok, ap, ◌∙◌}
use Rattle.bpf_remote.proofs.Cutting.{Bytes-more}
use Rattle.bpf_remote.proofs.stream.read_body.Goals as goal

pub loop-fault-preserved : goal.loop-fault-preserved
loop-fault-preserved g c =
    let e = c.in-Ok-Some.is ∙ ap Ok c.in-Ok-Some.field-0-is in
    Bytes-more _ _ _ _ _ _ _ c.loop-fault.invariant (rw e at c.read_byte.ensures) c.if-byte-eq35.false c.push.ensures
