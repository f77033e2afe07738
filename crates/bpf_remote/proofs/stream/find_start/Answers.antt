use Rattle.std.proofs.Common.{Ok, ap, ◌∙◌}
use Rattle.bpf_remote.proofs.Cutting.{Noise-more}
use Rattle.bpf_remote.proofs.stream.find_start.Goals as goal

pub loop-fault-preserved : goal.loop-fault-preserved
loop-fault-preserved g c =
    let e = c.in-Ok-Some.is ∙ ap Ok c.in-Ok-Some.field-0-is in
    Noise-more _ _ _ _ _ c.loop-fault.invariant (rw e at c.read_byte.ensures) c.if-byte-eq36.false c.if-byte-eq45.false
