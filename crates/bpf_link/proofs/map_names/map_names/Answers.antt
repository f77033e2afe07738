use Rattle.std.proofs.Common.{◌∙◌, ap, length, arith}
use Rattle.std.proofs.lemmas.List.{length-map}
use Rattle.std.proofs.lemmas.List.Sorted.{length_permutation}
use Rattle.bpf_link.proofs.map_names.map_names.Goals as goal

pub with_others-requires : goal.with_others-requires
with_others-requires c =
    let ordered = c.in_order-ordered.result.items in
    let same = length_permutation c.args.maps.now ordered c.in_order-ordered.ensures.value.same in
    let lent = ap length c.as_slice.ensures.value in
    let own = ap length c.own_names-own.ensures ∙ length-map _ _ in
    let sections = ap length c.data_names-others.ensures ∙ length-map _ _ in
    let others = ap length c.as_slice-2.ensures.value in
    let few = c.requires.few in
    omega (arith, same, lent, own, sections, others, few)
