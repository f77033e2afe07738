use Rattle.std.proofs.Common.{append_assoc}
use Rattle.bpf_trace.specs.Calls.{arguments_text}
use Rattle.bpf_trace.proofs.call_text.put_arguments.Goals as goal

pub returns : goal.returns
unfolding arguments_text
returns g c = λ first front known.
    let one = c.put_argument_if-first.ensures first front known in
    let two = c.put_argument_if-second.ensures first _ one in
    let three = c.put_argument_if-third.ensures first _ two in
    let four = c.put_argument_if-fourth.ensures first _ three in
    simp append_assoc (simp append_assoc at (c.put_argument_if.ensures first _ four))
