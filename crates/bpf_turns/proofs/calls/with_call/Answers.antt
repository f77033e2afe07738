use Rattle.std.proofs.lemmas.Result.{IfOk-weaker}
use Rattle.bpf_turns.proofs.Pieces.{three_pieces}
use Rattle.bpf_turns.proofs.calls.with_call.Goals as goal

pub returns-clause-ok : goal.returns-clause-ok
returns-clause-ok c =
    let call = rw c.saturating_sub.ensures at c.with_slot.ensures.ok in
    IfOk-weaker c.with_slot.result _ _
    (λ new told. three_pieces c.args.words.items _ _ _ c.in-Ok.kept.items c.in-Ok-with_moved.moved.items new.items c.in-Ok.ensures.ok c.in-Ok-with_moved.ensures.ok told) call
