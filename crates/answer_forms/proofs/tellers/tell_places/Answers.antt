use Rattle.std.proofs.Common.{◌∙◌, arith}
use Rattle.answer_forms.proofs.Places.{told-place}
use Rattle.answer_forms.proofs.tellers.tell_places.Goals as goal

pub loop-preserved : goal.loop-preserved
loop-preserved c = λ p.
    told-place c.loop.place c.args.count c.loop.counter c.args.k p _ _ (omega arith) (c.in_ok-insert.ensures.updates.0 p) ∙ c.loop.invariant p
