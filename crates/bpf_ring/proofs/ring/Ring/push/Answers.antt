use Rattle.std.proofs.Common.{◌≡◌, ◌∙◌, ◌++◌, length, ap}
use Rattle.bpf_ring.specs.Blocks.{Content, around}
use Rattle.bpf_ring.proofs.ring.Ring.push.Goals as goal

pub returns-else-write_in_place-clause-bytes : goal.returns-else-write_in_place-clause-bytes
returns-else-write_in_place-clause-bytes c =
    let inside = c.self.inside in
    let bytes = c.args.bytes.now in
    let lent = c.make_contiguous-block.ensures in
    let block = c.write_in_place.new.block in
    let kept : block ≡ inside.buffer.items = c.write_in_place.ensures.stays c.if-write_in_place.false ∙ lent.value in
    c.push_apart.ensures.bytes
    ∙ ap (λ l. around l inside.first inside.len ++ bytes) (lent.same_len block (ap length kept) ∙ kept)
    ∙ ap (λ l. l ++ bytes) (ap (λ (j : Content). j.bytes) c.self.view_is)
