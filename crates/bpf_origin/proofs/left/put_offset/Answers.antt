use Rattle.std.proofs.Common.{append_assoc, sym, ◌∙◌}
use Rattle.bpf_origin.proofs.left.put_offset.Goals as goal

pub returns : goal.returns
returns g c = λ first front known.
    let begun = c.put-begun.ensures first front known in
    let counted = rw c.saturating_sub.ensures at (c.put_decimal-counted.ensures first _ begun) in
    rw (sym c.in_context.ensures ∙ c.if-not-in_context.false) (simp append_assoc (simp append_assoc at (c.put.ensures first _ counted)))
