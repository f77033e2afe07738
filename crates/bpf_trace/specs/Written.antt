-- Which bytes of the stack were written since their frame was entered, and which step reads one that wasn't: by the steps before it, each
-- told by the state from which it was taken, the newest first.
use Rattle.std.specs.Prelude.{ℕ, zero, suc, Bool, true, false, not, ◌&&◌, if◌then◌else◌, List, [], ◌∷◌, Option, Some, None, length}
use Rattle.std.specs.Option.{option_map_or, option_or}
use Rattle.bpf_machine.specs.declared.moves.Move.TheVariants as move
use Rattle.bpf_steps.specs.Entries.{step_entry}
use Rattle.bpf_steps.specs.Next.{change, next}
use Rattle.bpf_steps.specs.Regions.{is_from_frame}
use Rattle.bpf_steps.specs.State.{State}
use Rattle.bpf_steps.specs.declared.change.Change.{Change}
use Rattle.bpf_steps.specs.declared.change.Change.TheVariants.{Call, Stop}
use Rattle.bpf_origin.specs.Reads.{reads}
use Rattle.bpf_origin.specs.Writes.{writes}
use Rattle.bpf_origin.specs.declared.place.Part.{Part}
use Rattle.bpf_origin.specs.declared.place.Part.TheVariants as part
use Rattle.bpf_origin.specs.declared.place.Place.TheVariants.{Byte}
use Rattle.bpf_trace.specs.OwnCode.{call_of}
use Rattle.bpf_trace.specs.Runs.{steps_of}
use Rattle.bpf_trace.specs.declared.own_code.OwnCode.{OwnCode}
use Rattle.bpf_trace.specs.declared.strict_run.Unwritten.{Unwritten}

-- A step is a local call: it makes each byte of the frame that it enters zero.
abbrev pub is_call : Change → Bool
is_call (Call to) = true
is_call _ = false

-- A byte was written since its frame was entered, if the latest step that wrote it is no call.
abbrev pub is_written : List State → ℕ → Bool
is_written [] a = false
is_written (x ∷ before) a =
    if writes (next x) (step_entry x) (Byte a) then not (is_call (change x)) else is_written before a

-- One of the stack that wasn't, and the first such of n bytes from an address on, of a part, and of parts.
abbrev pub is_unwritten : List State → ℕ → Bool
is_unwritten before a = is_from_frame 0 a && not (is_written before a)

abbrev pub first_in : List State → ℕ → ℕ → Option ℕ
first_in before a zero = None
first_in before a (suc n) = if is_unwritten before a then Some a else first_in before (suc a) n

abbrev pub first_of : List State → Part → Option ℕ
first_of before (part.Bytes a n) = first_in before a n
first_of before _ = None

abbrev pub first_among : List State → List Part → Option ℕ
first_among before [] = None
first_among before (p ∷ ps) = option_or (first_of before p) (first_among before ps)

-- The first such that the step from a state reads. A step that ends the run reads nothing: its fault is told.
abbrev pub is_stop : Change → Bool
is_stop (Stop status) = true
is_stop _ = false

unfoldable pub read_unwritten : List State → State → Option ℕ
read_unwritten before x = if is_stop (change x) then None else first_among before (reads x move.Step)

-- The first of some steps that reads one: how many come before it, its slot, the address of that byte, and the call of FILE's own code.
abbrev pub unwritten_among : OwnCode → List State → List State → Option Unwritten
unwritten_among own before [] = None
unwritten_among own before (x ∷ xs) =
    option_map_or (λ a. Some (record { steps = length before; slot = x.pc; address = a; call = call_of own x })) (read_unwritten before x)
    (unwritten_among own (x ∷ before) xs)

-- The first one of a run of at most so many steps, before which nothing was written.
abbrev pub unwritten_of : OwnCode → ℕ → State → Option Unwritten
unwritten_of own limit x = unwritten_among own [] (steps_of limit x)
