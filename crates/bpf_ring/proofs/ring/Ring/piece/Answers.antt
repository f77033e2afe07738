use Rattle.std.proofs.Common.{◌≡◌, length, ap}
use Rattle.bpf_ring.specs.Blocks.{Content, behind}
use Rattle.bpf_ring.proofs.ring.Ring.piece.Goals as goal
use Rattle.bpf_ring.proofs.Arounds.{piece_at}

pub returns-then-at-count : goal.returns-then-at-count
returns-then-at-count c =
    let items = c.self.inside.buffer.items in
    let at : c.place-at.result ≡ behind (length items) c.self.inside.first c.args.from = rw (← c.len.ensures.len) c.place-at.ensures.value in
    piece_at items c.as_slices.result.0.now c.as_slices.result.1.now c.args.self.now.bytes c.self.inside.first c.self.inside.len c.args.from c.args.count c.place-at.result
    (ap (λ (j : Content). j.bytes) c.self.view_is) at c.self.invariant.within c.self.invariant.fits c.requires c.as_slices.ensures c.if-at-count.true
