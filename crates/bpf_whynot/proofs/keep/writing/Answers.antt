use Rattle.std.proofs.lemmas.Result.{IfOk-weaker}
use Rattle.bpf_whynot.specs.Keeps.{held_places, writes_one}
use Rattle.bpf_whynot.proofs.keep.writing.Goals as goal

pub returns-in-Ok : goal.returns-in-Ok
returns-in-Ok c =
    IfOk-weaker c.ways_to.result _ _
    (λ marks tells. tells (writes_one c.args.program.now (held_places c.args.values c.args.wanted.now) c.args.wall) (rw c.as_slice.ensures.value c.in-Ok.ensures))
    c.ways_to.ensures
