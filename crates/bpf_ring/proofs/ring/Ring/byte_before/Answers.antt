use Rattle.std.proofs.Common.{◌≡◌, ◌∙◌, length, ap}
use Rattle.bpf_ring.specs.Blocks.{Content, behind}
use Rattle.bpf_ring.proofs.ring.Ring.byte_before.Goals as goal
use Rattle.bpf_ring.proofs.Arounds.{piece_at}

pub returns-then-start-count : goal.returns-then-start-count
returns-then-start-count c = λ e mark fits h.
    let items = c.self.inside.buffer.items in
    let at : c.place-start.result ≡ behind (length items) c.self.inside.first c.args.from = rw (← c.len.ensures.len) c.place-start.ensures.value in
    let read = piece_at items c.as_slices.result.0.now c.as_slices.result.1.now c.args.self.now.bytes c.self.inside.first c.self.inside.len c.args.from c.args.count c.place-start.result
    (ap (λ (j : Content). j.bytes) c.self.view_is) at c.self.invariant.within c.self.invariant.fits c.requires.held c.as_slices.ensures c.if-start-count.true in
    c.told_in.ensures e mark fits (read ∙ h)
