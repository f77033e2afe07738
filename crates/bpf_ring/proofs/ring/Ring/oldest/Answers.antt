use Rattle.std.proofs.Common.{◌∙◌, [], take, refl, ap}
use Rattle.bpf_ring.specs.Blocks.{Content}
use Rattle.bpf_ring.proofs.Arounds.{oldest_piece}
use Rattle.bpf_ring.proofs.ring.Ring.oldest.Goals as goal

pub returns-then-self-block-clause-len : goal.returns-then-self-block-clause-len
returns-then-self-block-clause-len c = λ n rest low is.
    let read = oldest_piece c.self.inside.buffer.items c.as_slices.result.0.now c.as_slices.result.1.now c.args.self.now.bytes c.self.inside.first c.self.inside.len 3
    (ap (λ (j : Content). j.bytes) c.self.view_is) c.as_slices.ensures c.if-self-ge3.true c.if-self-block.true in
    c.head.ensures.len n (take 1 rest) low (read ∙ ap (take 3) is)

pub returns-then-self-block-clause-tag : goal.returns-then-self-block-clause-tag
returns-then-self-block-clause-tag c = λ e mark rest is.
    let read = oldest_piece c.self.inside.buffer.items c.as_slices.result.0.now c.as_slices.result.1.now c.args.self.now.bytes c.self.inside.first c.self.inside.len 3
    (ap (λ (j : Content). j.bytes) c.self.view_is) c.as_slices.ensures c.if-self-ge3.true c.if-self-block.true in
    c.head.ensures.tag _ _ _ (read ∙ ap (take 3) is)

pub returns-else-self-ge3-clause-tag : goal.returns-else-self-ge3-clause-tag
returns-else-self-ge3-clause-tag c = λ e mark rest is. c.tag_at.ensures e mark [] rest is refl
