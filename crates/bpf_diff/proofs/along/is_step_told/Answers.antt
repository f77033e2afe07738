use Rattle.std.proofs.Common.{◌∙◌, ap₂}
use Rattle.bpf_diff.specs.Against.{is_line}
use Rattle.bpf_diff.proofs.along.is_step_told.Goals as goal

pub returns-in-Ok : goal.returns-in-Ok
returns-in-Ok c = λ x t.
    rw c.in-Some.is (c.is_line.ensures ∙ ap₂ is_line (c.as_slice.ensures.value ∙ c.in-Ok.ensures x t) c.unplaced.ensures)
