use Rattle.std.proofs.lemmas.Result.{IfOk-weaker}
use Rattle.bpf_whynot.proofs.Surely.{ways}
use Rattle.bpf_whynot.proofs.sure.ways_to.Goals as goal

pub returns : goal.returns
returns c =
    let above = rw c.len.ensures at (c.in-Ok.ensures.items_if_clones_equal (λ y e. e)) in
    IfOk-weaker c.come_back.result _ _
    (λ marks back. λ last seeds. ways c.args.program.now c.args.slot last _ _ marks.items c.invariant.ensures above seeds (rw c.as_slice.ensures.value at back))
    c.come_back.ensures
