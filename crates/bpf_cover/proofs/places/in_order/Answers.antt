use Rattle.std.proofs.Common.{ap, ◌∙◌}
use Rattle.std.specs.Prelude.{map}
use Rattle.bpf_cover.specs.Spots.{plain}
use Rattle.bpf_cover.proofs.Placing.{if-ok, plain-order}
use Rattle.bpf_cover.proofs.places.in_order.Goals as goal

pub returns : goal.returns
returns c =
    if-ok c.plain.result _ _
    (λ ordered e. plain-order c.args.spots.now ordered.items _ _ c.in_ok-keys.ensures (e ∙ ap (map plain) c.as_slice.ensures.value)
    c.sort_unstable.ensures.permutation c.sort_unstable.ensures.sorted)
    c.plain.ensures
