use Rattle.std.proofs.lemmas.Result.{IfOk-weaker}
use Rattle.bpf_link.proofs.Reached.{looks}
use Rattle.bpf_link.proofs.reach.look.Goals as goal

pub returns-in-Ok-clause-ok : goal.returns-in-Ok-clause-ok
returns-in-Ok-clause-ok c =
    IfOk-weaker c.jump.result _ _ (λ new jump. looks c.args.words.now c.args.slot c.args.walk c.in-Ok.next new c.in-Ok.ensures.ok jump) c.jump.ensures.ok
