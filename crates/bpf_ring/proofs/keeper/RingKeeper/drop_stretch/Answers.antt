use Rattle.std.proofs.Common.{◌∙◌, ℕ, ap, arith}
use Rattle.bpf_ring.proofs.StretchLaws.{without_stretch}
use Rattle.bpf_ring.proofs.keeper.RingKeeper.drop_stretch.Goals as goal

pub returns-clause-held : goal.returns-clause-held
returns-clause-held c = λ ks held stretch.
    let now = c.args.self.now in
    without_stretch now.ring c.drop_newest.new.self now.counts c.with_entries-self.result c.args.stretch c.min-len.result ks held stretch
    (λ within. omega (arith, c.min-len.ensures, within, c.len.ensures.value)) c.drop_newest.ensures.bytes
    (c.with_entries-self.ensures ∙ ap (λ (n : ℕ). record now.counts { entries = n }) c.saturating_sub-entries.ensures)
