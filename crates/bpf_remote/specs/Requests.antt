-- What the body of a packet asks for.
use Rattle.std.specs.Prelude.{ℕ, ◌-◌, ◌/◌, ◌%◌, ◌==◌, ◌||◌, if◌then◌else◌, nat_le, List, [], ◌∷◌, length, is_some, Option, Some, None, Bool, false}
use lib.Chars.{codes}
use Rattle.std.specs.Option.{option_map, option_and_then, unwrap_or}
use Rattle.std.specs.Str.{bytes_eq}
use Rattle.bpf_machine.specs.declared.edit.Edit.TheVariants as edit
use Rattle.bpfdb_script.specs.Commands.{bytes_of}
use Rattle.bpfdb_script.specs.declared.command.Command.{Command}
use Rattle.bpfdb_script.specs.declared.command.Command.TheVariants as command
use Rattle.bpfdb_script.specs.declared.command.Goal.{Goal}
use Rattle.bpfdb_script.specs.declared.command.Goal.TheVariants as goal
use Rattle.bpfdb_script.specs.declared.command.Stop.TheVariants as stop
use Rattle.bpfdb_script.specs.declared.command.Target.TheVariants as target
use Rattle.bpf_session.specs.WatchRuns.{run_of}
use Rattle.counted_io.specs.Cuts.{cut}
use Rattle.bpf_remote.specs.Numbers.{before, behind, number, pair, word}
use Rattle.bpf_remote.specs.declared.request.Request.{Request}
use Rattle.bpf_remote.specs.declared.request.Request.TheVariants as request

-- What is asked, by what stands behind a name.
abbrev pub Arguments : Type 0
Arguments = List ℕ → Request

-- Anything may stand there.
abbrev pub any : Request → Arguments
any r rest = r

-- What was read, else the arguments are wrong.
abbrev pub or_wrong : Option Request → Request
or_wrong r = unwrap_or r request.Wrong

-- The number of a register.
abbrev pub register : Arguments
register rest = or_wrong (option_map request.Register (number rest))

-- The registers that can be set: r0 to r10; pc, which counts bytes, eight a slot; and from 12 on r0 to r10 once more.
abbrev pub edit_of : ℕ → ℕ → Option Command
edit_of n value =
    if nat_le n 10 then Some (command.Edit (edit.Register n value))
    else if n == 11 then (if value % 8 == 0 then Some (command.Edit (edit.Pc (value / 8))) else None)
    else if nat_le n 22 then Some (command.Edit (edit.Register (n - 12) value))
    else None

-- The number of a register, `=`, and its eight bytes.
abbrev pub set_register : Arguments
set_register rest = or_wrong (option_and_then (λ parts. option_and_then (λ n. option_and_then (λ value. option_map request.Set (edit_of n value)) (word parts.1)) (number parts.0)) (cut 61 rest))

-- An address, a comma and how many bytes.
abbrev pub memory : Arguments
memory rest = or_wrong (option_map (λ p. request.Memory p.0 p.1) (pair 44 rest))

-- An address, a comma, how many bytes, a colon and the bytes, 1 to 256 of them.
abbrev pub bytes_at : ℕ → ℕ → List ℕ → Option Request
bytes_at address count bytes = if length bytes == count then Some (request.Set (command.Edit (edit.Bytes address bytes))) else None

abbrev pub set_memory : Arguments
set_memory rest = or_wrong (option_and_then (λ parts. option_and_then (λ p. option_and_then (λ bytes. bytes_at p.0 p.1 bytes) (bytes_of parts.1)) (pair 44 parts.0)) (cut 58 rest))

-- The address of an instruction, which is eight times its slot, and a breakpoint's kind, which says nothing.
abbrev pub slot_of : ℕ → Option ℕ
slot_of address = if address % 8 == 0 then Some (address / 8) else None

abbrev pub slot_at : List ℕ → Option ℕ
slot_at rest = option_and_then (λ p. slot_of p.0) (pair 44 rest)

abbrev pub delete : Arguments
delete rest = or_wrong (option_map (λ slot. request.Set (command.Remove (stop.Breakpoint slot))) (slot_at rest))

-- A list of one condition: `X`, how many bytes it has, a comma and its bytes, 1 to 256 of them. Of any other list none is kept: then the
-- breakpoint stops each time, and gdb looks itself.
abbrev pub of_length : ℕ → List ℕ → Option (List ℕ)
of_length n bytes = if length bytes == n then Some bytes else None

abbrev pub condition_of : List ℕ → Option (List ℕ)
condition_of list =
    option_and_then (λ rest. option_and_then (λ parts. option_and_then (λ n. option_and_then (λ bytes. of_length n bytes) (bytes_of parts.1)) (number parts.0)) (cut 44 rest)) (behind (codes "X") list)

abbrev pub condition_behind : List ℕ → Option (List ℕ)
condition_behind rest = option_and_then (λ parts. condition_of parts.1) (cut 59 rest)

-- A breakpoint, and behind a semicolon its conditions, if it has any.
abbrev pub set_break : Arguments
set_break rest = or_wrong (option_map (λ slot. request.Break slot (condition_behind rest)) (slot_at (before 59 rest)))

-- An address, a comma, and how many bytes are watched from there on: 1 to 4.
abbrev pub watch : (List ℕ → Request) → Arguments
watch does rest = or_wrong (option_and_then (λ p. option_map does (run_of p.0 p.1)) (pair 44 rest))

-- Whether a text stands in another.
abbrev pub contains : List ℕ → List ℕ → Bool
contains name [] = false
contains name (byte ∷ rest) = is_some (behind name (byte ∷ rest)) || contains name rest

-- Where a part of gdb's description begins, a comma, and how many bytes it has at most.
abbrev pub description : Arguments
description rest = or_wrong (option_map (λ p. request.Description p.0 p.1) (pair 44 rest))

abbrev pub supported : Arguments
supported rest = request.Supported (contains (codes "swbreak+") rest)

-- The request of a whole word, None where the table doesn't have it.
abbrev pub word_of : List (List ℕ × Request) → List ℕ → Option Request
word_of [] body = None
word_of (row ∷ rows) body = if bytes_eq body row.0 then Some row.1 else word_of rows body

-- The request of the first name that the body begins with.
abbrev pub begun : List (List ℕ × Arguments) → List ℕ → Option Request
begun [] body = None
begun (row ∷ rows) body = elim (behind row.0 body) [ None ↦ begun rows body | Some rest ↦ Some (row.1 rest) ]

-- The ways to go on: by a step, or until something stops the machine.
abbrev pub goes : List (List ℕ × Request)
goes =
    (codes "s", request.Move (command.Forward (goal.Steps 1)))
    ∷ (codes "c", request.Move (command.Forward goal.Continue))
    ∷ []

-- The same with the number of a signal, which says nothing, since no signal reaches a program.
abbrev pub with_signal : Goal → Arguments
with_signal does rest = or_wrong (option_map (λ n. request.Move (command.Forward does)) (number rest))

-- A range of addresses: the first, a comma, and the one behind the last.
abbrev pub range : Arguments
range rest = or_wrong (option_map (λ p. request.Range p.0 p.1) (pair 44 rest))

abbrev pub signalled : List (List ℕ × Arguments)
signalled = (codes "S", with_signal (goal.Steps 1)) ∷ (codes "C", with_signal goal.Continue) ∷ (codes "r", range) ∷ []

-- What each thread is to do, one behind another with semicolons between them, and behind a colon the thread. There is one thread, so the
-- first counts, whatever thread it names.
abbrev pub action : List ℕ → Request
action s = unwrap_or (word_of goes s) (unwrap_or (begun signalled s) request.Wrong)

abbrev pub actions : Arguments
actions rest = action (before 58 (before 59 rest))

-- The requests that are whole words.
abbrev pub words : List (List ℕ × Request)
words =
    (codes "?", request.Stop)
    ∷ (codes "g", request.Registers)
    ∷ (codes "s", request.Move (command.Forward (goal.Steps 1)))
    ∷ (codes "c", request.Move (command.Forward goal.Continue))
    ∷ (codes "bs", request.Move (command.Back (target.Steps 1)))
    ∷ (codes "bc", request.Move (command.Back target.Continue))
    ∷ (codes "QStartNoAckMode", request.Silence)
    ∷ (codes "vCont?", request.Actions)
    ∷ []

-- Those that set what stops the machine, or take it away. There is one kind of breakpoint.
abbrev pub stops : List (List ℕ × Arguments)
stops =
    (codes "Z0,", set_break)
    ∷ (codes "z0,", delete)
    ∷ (codes "Z1,", set_break)
    ∷ (codes "z1,", delete)
    ∷ (codes "Z2,", watch request.Watch)
    ∷ (codes "z2,", watch request.Unwatch)
    ∷ []

-- Those that ask what is understood, and about the machine.
abbrev pub questions : List (List ℕ × Arguments)
questions =
    (codes "qSupported", supported)
    ∷ (codes "qAttached", any request.Attached)
    ∷ (codes "qXfer:features:read:target.xml:", description)
    ∷ []

-- The requests that begin with another name.
abbrev pub names : List (List ℕ × Arguments)
names =
    (codes "p", register)
    ∷ (codes "P", set_register)
    ∷ (codes "m", memory)
    ∷ (codes "M", set_memory)
    ∷ (codes "S", with_signal (goal.Steps 1))
    ∷ (codes "C", with_signal goal.Continue)
    ∷ (codes "vCont;", actions)
    ∷ (codes "H", any request.Thread)
    ∷ (codes "D", any request.Leave)
    ∷ (codes "vKill", any request.Leave)
    ∷ (codes "k", any request.Kill)
    ∷ []

-- What a body asks for.
unfoldable pub word_request : List ℕ → Option Request
word_request body = word_of words body

unfoldable pub stop_request : List ℕ → Option Request
stop_request body = begun stops body

unfoldable pub question : List ℕ → Option Request
question body = begun questions body

unfoldable pub begun_request : List ℕ → Option Request
begun_request body = begun names body

abbrev pub request_of : List ℕ → Request
request_of body =
    unwrap_or (word_request body)
    (unwrap_or (stop_request body) (unwrap_or (question body) (unwrap_or (begun_request body) request.Unknown)))
