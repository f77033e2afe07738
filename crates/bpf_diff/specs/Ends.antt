-- Whether two runs end alike.
use Rattle.std.specs.Prelude.{Bool, true, false, ◌==◌, ◌&&◌}
use Rattle.bpf_entries.specs.declared.status.Fault.{Fault}
use Rattle.bpf_entries.specs.declared.status.Fault.TheVariants.{Access, Token, Depth}
use Rattle.bpf_entries.specs.declared.status.Status.{Status}
use Rattle.bpf_entries.specs.declared.status.Status.TheVariants.{Running, Exited, Faulted}
use Rattle.bpf_steps.specs.State.{State, register}

abbrev pub same_fault : Fault → Fault → Bool
same_fault (Access a) (Access b) = a == b
same_fault (Token a) (Token b) = a == b
same_fault Depth Depth = true
same_fault f g = false

abbrev pub same_status : Status → Status → Bool
same_status Running Running = true
same_status Exited Exited = true
same_status (Faulted f) (Faulted g) = same_fault f g
same_status s t = false

-- For one reason, at one slot, with the same r0.
abbrev pub same_end : State → State → Bool
same_end x y = same_status x.status y.status && (x.pc == y.pc && (register x 0 == register y 0))
