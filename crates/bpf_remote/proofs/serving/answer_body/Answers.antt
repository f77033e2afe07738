use Rattle.std.proofs.Common.{ℕ, List, Bor}
use Rattle.bpf_remote.proofs.Bodies.{by-line, by-request, mapped-some, mapped-none}
use Rattle.bpf_remote.proofs.serving.answer_body.Goals as goal

pub returns-in-Some : goal.returns-in-Some
returns-in-Some g c = λ before.
    by-line _ _ _ _ _ _ _ c.answer_line-told.new.talk.conditions _ before c.args.body.now _ _ (mapped-some (λ (rest : Bor (List ℕ)). rest.now) _ _ _ c.behind.ensures c.in-Some.is) c.clear.ensures (c.answer_line-told.ensures before)

pub returns-in-None : goal.returns-in-None
returns-in-None g c = λ before.
    by-request _ _ _ _ _ _ _ _ before c.args.body.now _ (mapped-none (λ (rest : Bor (List ℕ)). rest.now) _ _ c.behind.ensures c.in-None.is) (c.answer_request.ensures before)
