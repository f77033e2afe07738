use Rattle.std.proofs.Common.{append_assoc}
use Rattle.bpf_trace.specs.Calls.{return_text}
use Rattle.bpf_trace.proofs.call_text.put_return.Goals as goal

pub returns : goal.returns
unfolding return_text
returns g c = λ first front known.
    let told = c.put_result-told.ensures first front known in
    let placed = rw c.text_of_slot.ensures at (c.put-placed.ensures first _ told) in
    simp append_assoc (simp append_assoc at (c.put.ensures first _ placed))
