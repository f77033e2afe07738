-- Scaffolding: no public contract cites this. What a step writes of the line of a call, and what is still to be written behind it.
use Rattle.std.specs.Prelude.{◌≡◌, ℕ, ◌+◌, false, if◌then◌else◌, IfSome, List, [], ◌++◌, Option, Some, None}
use Rattle.std.specs.Option.{option_map_or}
use Rattle.bpf_steps.specs.Next.{next}
use Rattle.bpf_steps.specs.State.{State, register}
use Rattle.bpf_trace.specs.Calls.{call_text, callee_of, calls_from, has_returned, made, pending_by, result_of, return_text}
use Rattle.bpf_trace.specs.declared.calls.Called.{Called}
use Rattle.bpf_trace.specs.declared.calls.Callee.{Callee}
use Rattle.bpf_trace.specs.declared.calls.Pending.{Pending}

-- A call that is open hasn't returned.
abbrev pub IsWaiting : Option Pending → State → Type 0
IsWaiting pending y = IfSome pending (λ o. has_returned o.depth y ≡ false)

-- The beginning of a line, where no call is open, and its end, where one has returned.
abbrev pub begun_if : Called → Option Pending → ℕ → State → List ℕ
begun_if c (Some pending) k x = []
begun_if c None k x = option_map_or (call_text c k x) (callee_of c x) []

abbrev pub end_if : Called → Pending → State → List ℕ
end_if c pending y = if has_returned pending.depth y then return_text c pending.slot (Some (register y 0)) else []

unfoldable pub made_text : Called → ℕ → State → Callee → List ℕ
made_text c k x callee = call_text c k x callee ++ end_if c (made x callee) (next x)

abbrev pub turn_text : Called → Option Pending → ℕ → State → List ℕ
turn_text c pending k x = begun_if c pending k x ++ option_map_or (λ o. end_if c o (next x)) (pending_by c pending x) []

-- The end of the line of a call that doesn't return.
abbrev pub unreturned : Called → Option Pending → List ℕ
unreturned c None = []
unreturned c (Some pending) = return_text c pending.slot None

-- What is still to be written of a run from a state on.
abbrev pub waiting : Called → Option Pending → ℕ → State → List ℕ
waiting c None limit y = []
waiting c (Some pending) limit y = return_text c pending.slot (result_of pending.depth limit y)

abbrev pub rest : Called → Option Pending → ℕ → ℕ → State → List ℕ
rest c pending k limit y = waiting c pending limit y ++ calls_from c pending k limit y
