use Rattle.std.proofs.Common.{Bool, ◌∷◌, subst}
use Rattle.bpf_ring.specs.Counted.{Counted}
use Rattle.bpf_ring.proofs.counts.Counts.add_by_tag.Goals as goal
use Rattle.bpf_ring.proofs.Counted.{tag_mark, tag_step}

pub returns : goal.returns
returns c = λ ks k counted few h.
    subst (λ (m : Bool). Counted c.add.new.self ((k.0, m) ∷ ks)) (tag_mark k.0 k.1 c.args.tag h)
    (c.add.ensures ks k.0 counted few (tag_step k.0 k.1 c.args.tag h))
