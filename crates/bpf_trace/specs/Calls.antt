-- The calls of a run that leave some code, FILE's own: of a helper, or of a function that lies elsewhere (RFC 9669, section 4.3: a helper function by
-- its static ID, a program-local function). The texts are bpfdb's own choice.
use Rattle.std.specs.Prelude.{ℕ, zero, suc, ◌+◌, ◌&&◌, ◌==◌, nat_le, nat_lt, not, Bool, true, false, if◌then◌else◌, List, [], ◌++◌, Option, Some, None, decimal, length, option_map}
use lib.Chars.{codes}
use Rattle.std.specs.Option.{option_and_then, option_map_or}
use Rattle.counted_io.specs.Writing.{hexadecimal}
use Rattle.hex.specs.Hex.{encode_lower}
use Rattle.bpf_entries.specs.Status.{has_ended}
use Rattle.bpf_isa.specs.Helpers.{helper_of}
use Rattle.bpf_isa.specs.Programs.{insn_at}
use Rattle.bpf_isa.specs.declared.helpers.Helper.{Helper}
use Rattle.bpf_isa.specs.declared.helpers.Helper.TheVariants.{Lookup, Update, Trace}
use Rattle.bpf_isa.specs.declared.instruction.Insn.{Insn}
use Rattle.bpf_isa.specs.declared.instruction.Insn.TheVariants as insn
use Rattle.bpf_steps.specs.Next.{next, target}
use Rattle.bpf_steps.specs.Regions.{is_from_frame, run_at}
use Rattle.bpf_steps.specs.State.{State, depth, register}
use Rattle.bpf_session.specs.Plain.{plain_end}
use Rattle.bpfdb_script.specs.SlotTexts.{text_of_slot}
use Rattle.bpf_trace.specs.Prototypes.{count_of}
use Rattle.bpf_trace.specs.Traces.{told_end_line}
use Rattle.bpf_trace.specs.declared.calls.Called.{Called}
use Rattle.bpf_trace.specs.declared.calls.Callee.{Callee}
use Rattle.bpf_trace.specs.declared.calls.Callee.TheVariants as callee
use Rattle.bpf_trace.specs.declared.calls.Pending.{Pending}

-- A slot of the code that calls leave.
abbrev pub is_own : Called → ℕ → Bool
is_own c slot = nat_le c.first slot && nat_lt slot c.behind

-- What the instruction at pc calls, if it leaves that code.
abbrev pub outside : Called → ℕ → Option Callee
outside c to = if is_own c to then None else Some (callee.Function to)

abbrev pub callee_by : Called → State → Insn → Option Callee
callee_by c x (insn.CallHelper number) = option_map (λ helper. callee.Helper helper) (helper_of number)
callee_by c x (insn.CallLocal distance) = outside c (target x distance)
callee_by c x _ = None

unfoldable pub callee_of : Called → State → Option Callee
callee_of c x = if is_own c x.pc then option_and_then (callee_by c x) (insn_at x.program x.pc) else None

-- A call that was made at a depth has returned where the machine runs at that depth again, and what it returned is in r0 then. In at most so many
-- steps from a state on; none where the run ends before.
unfoldable pub has_returned : ℕ → State → Bool
has_returned d y = not (has_ended y.status) && depth y == d

abbrev pub result_of : ℕ → ℕ → State → Option ℕ
result_of d zero y = if has_returned d y then Some (register y 0) else None
result_of d (suc limit) y =
    if has_returned d y then Some (register y 0) else if has_ended y.status then None else result_of d limit (next y)

-- The call that isn't over behind a step: the one that was open before it, or that it makes. What a function calls belongs to the call of that function,
-- so that at most one is open.
abbrev pub made : State → Callee → Pending
made x callee = record { depth = depth x; slot = x.pc }

abbrev pub pending_by : Called → Option Pending → State → Option Pending
pending_by c (Some pending) x = Some pending
pending_by c None x = option_map (made x) (callee_of c x)

abbrev pub still_pending : Option Pending → State → Option Pending
still_pending None y = None
still_pending (Some pending) y = if has_returned pending.depth y then None else Some pending

-- How the line of a call begins: the number of its step, its slot, the name of the function, and as many of r1 to r5 as it takes.
abbrev pub helper_name : Helper → List ℕ
helper_name Lookup = codes "bpf_map_lookup_elem"
helper_name Update = codes "bpf_map_update_elem"
helper_name Trace = codes "trace"

abbrev pub named_or : List ℕ → ℕ → List ℕ
named_or name to = if length name == 0 then codes "L" ++ decimal to else name

abbrev pub name_of : Called → Callee → List ℕ
name_of c (callee.Helper helper) = helper_name helper
name_of c (callee.Function to) = named_or (text_of_slot c.names to) to

abbrev pub taken_by : Called → Callee → ℕ
taken_by c (callee.Helper Lookup) = 2
taken_by c (callee.Helper Update) = 4
taken_by c (callee.Helper Trace) = 1
taken_by c (callee.Function to) = count_of (text_of_slot c.names to)

-- Behind an address in the stack stand the eight bytes from there on, or four, where no more are present.
abbrev pub bytes_text : State → ℕ → ℕ → List ℕ → List ℕ
bytes_text x a n fewer = option_map_or (λ bytes. codes "=" ++ encode_lower bytes) (run_at x.memory a n) fewer

abbrev pub behind_text : State → ℕ → List ℕ
behind_text x a = if is_from_frame 0 a then bytes_text x a 8 (bytes_text x a 4 []) else []

abbrev pub comma : ℕ → List ℕ
comma r = if r == 1 then [] else codes ", "

unfoldable pub argument_text : State → ℕ → List ℕ
argument_text x r = comma r ++ hexadecimal (register x r) ++ behind_text x (register x r)

abbrev pub argument_if : State → ℕ → ℕ → List ℕ
argument_if x count r = if nat_lt count r then [] else argument_text x r

unfoldable pub arguments_text : State → ℕ → List ℕ
arguments_text x count =
    argument_if x count 1 ++ argument_if x count 2 ++ argument_if x count 3 ++ argument_if x count 4 ++ argument_if x count 5

unfoldable pub call_text : Called → ℕ → State → Callee → List ℕ
call_text c k x callee =
    decimal k ++ codes " " ++ decimal x.pc ++ codes ": " ++ name_of c callee ++ codes "(" ++ arguments_text x (taken_by c callee) ++ codes ")"

-- How it ends: what was returned, and what is told of the slot of the call.
abbrev pub result_text : Option ℕ → List ℕ
result_text (Some value) = codes " = " ++ hexadecimal value
result_text None = codes " = no return"

unfoldable pub return_text : Called → ℕ → Option ℕ → List ℕ
return_text c slot result = result_text result ++ text_of_slot c.places slot ++ codes "\n"

-- The line of a call that the step numbered k makes, by what comes of it in at most so many steps behind it.
abbrev pub call_line : Called → ℕ → ℕ → State → Callee → List ℕ
call_line c k limit x callee = call_text c k x callee ++ return_text c x.pc (result_of (depth x) limit (next x))

abbrev pub line_if : Called → Option Pending → ℕ → ℕ → State → List ℕ
line_if c (Some pending) k limit x = []
line_if c None k limit x = option_map_or (call_line c k limit x) (callee_of c x) []

-- The lines of the steps from a state on, numbered from k on, of at most so many: one for each that makes such a call where none is open.
abbrev pub calls_from : Called → Option Pending → ℕ → ℕ → State → List ℕ
calls_from c pending k zero x = []
calls_from c pending k (suc limit) x =
    if has_ended x.status then []
    else line_if c pending k limit x ++ calls_from c (still_pending (pending_by c pending x) (next x)) (k + 1) limit (next x)

-- The calls of a run, and where it ended.
abbrev pub calls_text : ℕ → Called → State → List ℕ
calls_text limit c x = calls_from c None 1 limit x ++ told_end_line c.places limit (plain_end limit x)
