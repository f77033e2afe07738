use Rattle.std.proofs.Common.{◌∙◌, ap}
use Rattle.bpf_trace.specs.Objects.{place_members}
use Rattle.bpf_trace.proofs.Members.{members-next}
use Rattle.bpf_trace.proofs.words.members_in.Goals as goal

pub loop-k-preserved : goal.loop-k-preserved
loop-k-preserved c =
    let pushed = rw c.in-Ok.is at c.push.ensures.items in
    let made = c.in_ok-made.ensures ∙ ap place_members (c.as_slice.ensures.value ∙ ap (λ v. v.items) c.index-texts-k.is) in
    rw pushed (members-next c.args.texts.now _ c.loop-k.k c.index-texts-k.result _ c.loop-k-test.true made c.loop-k.invariant)
