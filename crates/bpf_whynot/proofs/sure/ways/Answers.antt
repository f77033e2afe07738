use Rattle.std.proofs.lemmas.Result.{IfOk-weaker}
use Rattle.bpf_whynot.specs.Sures.{last_of}
use Rattle.bpf_whynot.proofs.sure.ways.Goals as goal

pub returns-in-Ok : goal.returns-in-Ok
returns-in-Ok c =
    IfOk-weaker c.ways_to.result _ _
    (λ marks tells. tells (last_of c.args.program.now c.args.slot c.args.to_slot) (rw c.as_slice.ensures.value c.in-Ok.ensures))
    c.ways_to.ensures
