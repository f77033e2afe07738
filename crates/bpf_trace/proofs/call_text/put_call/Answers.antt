use Rattle.std.proofs.Common.{append_assoc}
use Rattle.bpf_trace.specs.Calls.{call_text}
use Rattle.bpf_trace.proofs.call_text.put_call.Goals as goal

pub returns : goal.returns
unfolding call_text
returns g c = λ first front known.
    let counted = c.put_decimal-counted.ensures first front known in
    let parted = c.put-parted.ensures first _ counted in
    let placed = rw (c.from.ensures, c.pc.ensures) at (c.put_decimal-placed.ensures first _ parted) in
    let begun = c.put-begun.ensures first _ placed in
    let named = c.put_name-named.ensures first _ begun in
    let opened = c.put-opened.ensures first _ named in
    let told = rw c.taken_by.ensures at (c.put_arguments-told.ensures first _ opened) in
    simp append_assoc (simp append_assoc at (c.put.ensures first _ told))
