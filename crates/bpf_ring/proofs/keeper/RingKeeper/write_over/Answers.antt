use Rattle.std.proofs.Common.{◌∙◌, ◌++◌, sym, ap, subst}
use Rattle.bpf_ring.proofs.Edges.{fits_again, kept_on_is, plain_steps, written_over}
use Rattle.bpf_ring.specs.Edges.{IsRagged}
use Rattle.bpf_ring.specs.Pieces.{entries_of}
use Rattle.bpf_ring.proofs.keeper.RingKeeper.write_over.Goals as goal

pub returns-clause-held : goal.returns-clause-held
returns-clause-held c = λ ks x r fits is.
    let old = c.args.self.now in
    let new = c.push.new.self in
    let n = c.args.count in
    subst (IsRagged new (c.make_way.new.self.counts)) (sym (kept_on_is old.ring.size n x ks (fits_again old.ring old.counts ks r)))
    (written_over old.ring new old.counts c.make_way.new.self.counts (entries_of n x) ks c.args.text.now r fits (plain_steps n x) is c.requires (c.push.ensures.size ∙ c.make_way.ensures.size) c.make_way.ensures.counts
    (c.push.ensures.bytes ∙ ap (λ l. l ++ c.args.text.now) c.make_way.ensures.bytes))
