-- Where a run begins: at the state to which its program is opened on a context, with what was asked.
use Rattle.std.specs.Prelude.{◌≡◌}
use Rattle.bpf_isa.specs.Programs.{Checked}
use Rattle.bpf_opening.specs.Openings.{begun}
use Rattle.bpf_steps.specs.State.{State}
use Rattle.bpf_diff.specs.declared.start.Start.{Start}

abbrev pub begun_by : Start → Checked → State
begun_by start program = begun start.opening.now program start.context.now

abbrev pub Starts : Start → State → Type 0
Starts start x = x ≡ begun_by start x.program
