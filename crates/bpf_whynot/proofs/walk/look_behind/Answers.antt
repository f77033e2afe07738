use Rattle.std.proofs.lemmas.Result.{IfOk-weaker}
use Rattle.bpf_whynot.specs.Flows.{behind, unless}
use Rattle.bpf_whynot.proofs.Flowing.{places}
use Rattle.bpf_whynot.proofs.Walking.{two_behind, unless_way}
use Rattle.bpf_whynot.proofs.walk.look_behind.Goals as goal

pub returns-in-Ok : goal.returns-in-Ok
returns-in-Ok c =
    IfOk-weaker c.mark_if-in-Ok.result _ _
    (λ new marks.
    two_behind (unless c.args.but (behind c.args.program.now c.args.above.now)) c.args.slot c.saturating_sub-near.result c.saturating_sub-far.result c.args.walk c.in-Ok.walk new
    c.is_behind.result c.is_behind-in-Ok.result
    (λ p leads. rw (c.saturating_sub-near.ensures, c.saturating_sub-far.ensures) (places c.args.program.now c.args.above.now c.args.slot p (unless_way c.args.but (behind c.args.program.now c.args.above.now) p c.args.slot leads)))
    c.is_behind.ensures.1 c.is_behind.ensures.0 c.is_behind-in-Ok.ensures.1 c.is_behind-in-Ok.ensures.0 c.in-Ok.ensures marks)
    c.mark_if-in-Ok.ensures
