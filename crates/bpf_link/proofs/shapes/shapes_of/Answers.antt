use Rattle.std.proofs.Common.{◌≤◌, length, sym, subst}
use Rattle.bpf_link.proofs.InOrder.{numbered, few}
use Rattle.bpf_link.proofs.shapes.shapes_of.Goals as goal

pub returns-clause-defined : goal.returns-clause-defined
returns-clause-defined c =
    let ordered = c.in_order-ordered.result.items in
    let made = rw c.as_slice.ensures.value at c.shapes_at.ensures in
    record {
      ordered = (ordered, c.in_order-ordered.ensures.value, made);
      numbered = numbered c.args.definitions.now c.args.maps.now ordered c.shapes_at.result.items c.in_order-ordered.ensures.value made;
    }

pub returns-clause-few : goal.returns-clause-few
returns-clause-few c =
    subst (λ shapes. length shapes ≤ length c.args.maps.now) (sym (rw c.as_slice.ensures.value at c.shapes_at.ensures))
    (few c.args.definitions.now c.args.maps.now c.in_order-ordered.result.items c.in_order-ordered.ensures.value)
