use Rattle.std.proofs.Common.{◌≡◌, ◌+◌, ◌%◌, ◌^◌, ◌∙◌, ℕ, length, ap, arith}
use Rattle.bpf_ring.proofs.Held.{few_held}
use Rattle.bpf_ring.proofs.PieceLaws.{appended_steps}
use Rattle.bpf_ring.proofs.keeper.RingKeeper.append_steps.Goals as goal

pub returns-clause-held : goal.returns-clause-held
returns-clause-held c = λ ks x held fits is.
    let now = c.args.self.now in
    let few = few_held now.ring now.counts now.ring.size (length c.args.text.now) ks c.requires.room (omega (arith, c.size-size.ensures.value, c.size-size.ensures.sized.1)) held in
    let more : (now.counts.entries + c.args.count) % 2 ^ 64 ≡ now.counts.entries + c.args.count = omega (arith, held.counted.entries, few, c.requires.few) in
    appended_steps now.ring c.push.new.self now.counts c.with_entries-self.result ks c.args.count x c.args.text.now held fits is c.push.ensures.bytes (c.with_entries-self.ensures ∙ ap (λ (n : ℕ). record now.counts { entries = n }) more)
