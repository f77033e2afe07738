use Rattle.std.proofs.lemmas.Result.{IfOk-weaker}
use Rattle.bpf_whynot.specs.Flows.{behind, jump, unless}
use Rattle.bpf_whynot.proofs.Walking.{looks}
use Rattle.bpf_whynot.proofs.walk.look_back.Goals as goal

pub returns-in-Ok : goal.returns-in-Ok
returns-in-Ok c =
    IfOk-weaker c.look_along.result _ _
    (λ new along. looks (unless c.args.but (behind c.args.program.now c.args.above.now)) (unless c.args.but (jump c.args.program.now)) c.args.slot c.args.walk c.in-Ok.walk new c.in-Ok.ensures along)
    c.look_along.ensures
