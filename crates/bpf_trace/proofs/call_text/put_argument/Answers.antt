use Rattle.std.proofs.Common.{append_assoc}
use Rattle.bpf_trace.specs.Calls.{argument_text}
use Rattle.bpf_trace.proofs.call_text.put_argument.Goals as goal

pub returns : goal.returns
unfolding argument_text
returns g c = λ first front known.
    let parted = c.put_comma-parted.ensures first front known in
    let told = rw c.number_in-value.ensures at (c.put_hexadecimal-told.ensures first _ parted) in
    simp append_assoc (simp append_assoc at (rw c.number_in-value.ensures at (c.put_behind.ensures first _ told)))
