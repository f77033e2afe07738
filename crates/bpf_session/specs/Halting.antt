-- Scaffolding: how a forward command's run of steps stops: by a test of each step, and by the most steps.
use Rattle.std.specs.Prelude.{◌+◌, ℕ, Bool, true, false, List, if◌then◌else◌, nat_lt, not}
use Rattle.std.specs.Str.{bytes_eq}
use Rattle.bpf_steps.specs.State.{State, depth}
use Rattle.bpf_session.specs.Stops.{has}
use Rattle.bpf_session.specs.Watched.{bytes_at}
use Rattle.bpfdb_script.specs.declared.command.Goal.{Goal}
use Rattle.bpfdb_script.specs.declared.command.Goal.TheVariants.{Steps, Next, Continue, Finish}

-- Whether a step is the last one, which replaced bytes or not and led to y: a breakpoint is there, the depth is below a floor, or watched bytes
-- are not those that were seen.
abbrev pub halts : List ℕ → List ℕ → List ℕ → ℕ → Bool → State → Bool
halts breaks watches seen floor replaced y =
    if has breaks y.pc then true
    else if nat_lt (depth y) floor then true
    else if replaced then not (bytes_eq (bytes_at watches y) seen)
    else false

-- The floor of a command that began at a depth, and its most steps.
abbrev pub floor_of : Goal → ℕ → ℕ
floor_of (Steps count) start = 0
floor_of Next start = start + 1
floor_of Continue start = 0
floor_of Finish start = start

abbrev pub most_of : Goal → ℕ → ℕ
most_of (Steps count) limit = if nat_lt count limit then count else limit
most_of Next limit = limit
most_of Continue limit = limit
most_of Finish limit = limit
