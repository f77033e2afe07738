use Rattle.std.proofs.Common.{append_assoc}
use Rattle.bpf_lines.proofs.place_names.put_global.Goals as goal

pub returns-in-Some : goal.returns-in-Some
returns-in-Some g c = λ first front known.
    let named = rw (c.short_at-variable.ensures.value, c.bytes.ensures) at (c.put_shown-named.ensures first front known) in
    rw c.in-Some.is (simp append_assoc at (c.put_typed.ensures first _ named))

pub returns-in-None : goal.returns-in-None
returns-in-None g c = λ first front known.
    let named = c.put_base-named.ensures first front known in
    rw c.in-None.is (simp append_assoc at (c.put_rest.ensures first _ named))
