use Rattle.std.proofs.Common.{◌+◌, ◌∙◌, ◌++◌, length, ap}
use Rattle.bpf_ring.specs.Blocks.{Content, around}
use Rattle.bpf_ring.proofs.ring.Ring.push_apart.Goals as goal
use Rattle.bpf_ring.proofs.Arounds.{around_filled}

pub returns-clause-bytes : goal.returns-clause-bytes
returns-clause-bytes c =
    let inside = c.self.inside in
    let bytes = c.args.bytes.now in
    let block = c.write_around.new.block in
    let lent = c.make_contiguous-block.ensures in
    ap (λ l. around l inside.first (inside.len + length bytes)) (lent.same_len block (c.write_around.ensures.len ∙ ap length lent.value))
    ∙ c.write_around.ensures.text
    ∙ ap (λ l. around l inside.first inside.len ++ bytes) lent.value
    ∙ ap (λ l. l ++ bytes)
    (around_filled inside.buffer.items c.fill.new.buffer.items inside.first inside.len inside.buffer.capacity c.fill.ensures.items c.fill.ensures.fits c.self.invariant.filled c.self.invariant.within c.self.invariant.fits
    ∙ ap (λ (j : Content). j.bytes) c.self.view_is)
