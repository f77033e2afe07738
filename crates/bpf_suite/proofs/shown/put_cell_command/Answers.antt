use Rattle.std.proofs.Common.{append_assoc}
use Rattle.bpf_suite.specs.Shown.{cell_command}
use Rattle.bpf_suite.proofs.shown.put_cell_command.Goals as goal

pub returns : goal.returns
unfolding cell_command
returns g c = λ first front known.
    let begun = c.put_all-begun.ensures first front known in
    let valued = rw c.as_slice.ensures.value at (c.put_value-valued.ensures first _ begun) in
    simp append_assoc (simp append_assoc at (c.put.ensures first _ valued))
