use Rattle.std.proofs.Common.{◌≡◌, ◌-◌, length, ap}
use Rattle.bpf_ring.specs.Blocks.{Content, behind}
use Rattle.bpf_ring.proofs.ring.Ring.newest_piece.Goals as goal
use Rattle.bpf_ring.proofs.Arounds.{newest_piece}

pub returns-then-start-count : goal.returns-then-start-count
returns-then-start-count c =
    let items = c.self.inside.buffer.items in
    let bytes = c.args.self.now.bytes in
    let at : c.place-start.result ≡ behind (length items) c.self.inside.first (length bytes - c.args.count) = rw (← c.len.ensures.len, ← c.len-2.ensures.value) c.place-start.ensures.value in
    newest_piece items c.as_slices.result.0.now c.as_slices.result.1.now bytes c.self.inside.first c.self.inside.len c.args.count c.place-start.result
    (ap (λ (j : Content). j.bytes) c.self.view_is) at c.self.invariant.within c.self.invariant.fits c.requires c.as_slices.ensures c.if-start-count.true
