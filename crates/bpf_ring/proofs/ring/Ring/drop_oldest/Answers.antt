use Rattle.std.proofs.Common.{◌≡◌, ◌≤◌, ◌∙◌, length, drop, arith, ap}
use Rattle.bpf_ring.specs.Blocks.{Content, around, behind}
use Rattle.bpf_ring.proofs.ring.Ring.drop_oldest.Goals as goal
use Rattle.bpf_ring.proofs.Arounds.{around_drop, length-around}

pub returns-clause-bytes : goal.returns-clause-bytes
returns-clause-bytes c =
    let items = c.self.inside.buffer.items in
    let kept : length (around items c.self.inside.first c.self.inside.len) ≡ c.self.inside.len = length-around items c.self.inside.first c.self.inside.len (omega (arith, c.self.invariant.within)) c.self.invariant.fits in
    let same : around items c.self.inside.first c.self.inside.len ≡ c.args.self.now.bytes = ap (λ (j : Content). j.bytes) c.self.view_is in
    let few : c.args.n ≤ c.self.inside.len = omega (arith, c.requires, kept, ap length same) in
    let at : c.place-self-inside.result ≡ behind (length items) c.self.inside.first c.args.n = rw (← c.len.ensures.len) c.place-self-inside.ensures.value in
    around_drop items c.self.inside.first c.self.inside.len c.args.n c.place-self-inside.result at c.self.invariant.within c.self.invariant.fits few
    ∙ ap (drop c.args.n) same
