-- What the bodies of answers tell.
use Rattle.std.specs.Prelude.{ℕ, zero, suc, ◌+◌, ◌-◌, ◌^◌, ◌∷◌, slice_index, take, drop, ◌==◌, ◌&&◌, is_some, option_map, min, if◌then◌else◌, nat_lt, nat_le, Bool, List, [], ◌++◌, Some, None, Result, Ok, Err, length, Option}
use lib.Chars.{codes}
use Rattle.bpf_entries.specs.declared.status.Fault.TheVariants.{Access}
use Rattle.bpf_entries.specs.declared.status.Status.{Status}
use Rattle.bpf_entries.specs.declared.status.Status.TheVariants.{Running, Exited, Faulted}
use Rattle.bpf_steps.specs.Regions.{run_at}
use Rattle.bpf_steps.specs.State.{State}
use Rattle.bpf_agent.specs.Registers.{value_of}
use Rattle.bpfdb_script.specs.Refusals.{number_of}
use Rattle.bpfdb_script.specs.declared.refusal.Refusal.{Refusal}
use Rattle.bpfdb_script.specs.declared.refusal.Refusal.TheVariants.{MachineEnded, NoKeptStep}
use Rattle.bpfdb_script.specs.declared.why.Why.{Why}
use Rattle.bpfdb_script.specs.declared.why.Why.TheVariants as why
use Rattle.bpf_session.specs.declared.reply.Reply.{Reply}
use Rattle.bpf_session.specs.declared.reply.Reply.TheVariants as reply
use Rattle.bpf_remote.specs.Frames.{frame_byte, frames_base}
use Rattle.bpf_remote.specs.Layouts.{described, described_again, has_moves}
use Rattle.bpf_remote.specs.Numbers.{address_text, hex_text, word_text}
use Rattle.bpf_remote.specs.Packets.{longest_body, two_digits}
use Rattle.bpf_remote.specs.declared.answer.Answer.{Answer}
use Rattle.bpf_remote.specs.declared.answer.Answer.TheVariants as answer
use Rattle.bpf_remote.specs.declared.answer.Halt.{Halt}
use Rattle.bpf_remote.specs.declared.answer.Halt.TheVariants as halt
use Rattle.bpf_remote.specs.declared.layout.Layout.{Layout}
use Rattle.bpf_remote.specs.declared.layout.Layout.TheVariants as layout
use Rattle.bpf_remote.specs.declared.manners.Manners.{Manners}

-- How a machine stands still that has ended: gdb is told of the end of what is kept only where the machine was to go on until something stops it;
-- behind a step gdb doesn't expect that, and waits for ever.
abbrev pub halt_of_end : Bool → Halt
halt_of_end runs = if runs then halt.End else halt.Still

-- How one stands still in this status, and behind a command that ended for this reason.
abbrev pub halt_of_status : Bool → Status → Halt
halt_of_status runs Running = halt.Still
halt_of_status runs Exited = halt_of_end runs
halt_of_status runs (Faulted (Access address)) = halt.Access
halt_of_status runs (Faulted _) = halt.Fault

abbrev pub halt_of : Bool → Why → Status → Halt
halt_of runs why.End status = halt_of_status runs status
halt_of runs why.Break status = halt.Break
halt_of runs why.Watch status = halt.Step
halt_of runs why.Done status = halt.Step
halt_of runs why.All status = halt.Step
halt_of runs why.Limit status = halt.Limit
halt_of runs why.Memory status = halt.Memory
halt_of runs why.Start status = halt.Begin

-- The same with the first watched byte that has changed since before the command. (There may be none behind a way back over edits.)
abbrev pub answer_of_why : Bool → Why → Status → Option ℕ → Answer
answer_of_why runs why.Watch status (Some address) = answer.Watched address
answer_of_why runs why status changed = answer.Halted (halt_of runs why status)

-- The answer to a request that moves: where a machine has ended, or nothing is kept, the way there is at its end.
abbrev pub answer_of_move : Result Reply Refusal → Bool → Status → Option ℕ → Answer
answer_of_move (Ok (reply.Forward steps why)) runs status changed = answer_of_why runs why status changed
answer_of_move (Ok (reply.Back moves why)) runs status changed = answer_of_why runs why status changed
answer_of_move (Ok _) runs status changed = answer.Done
answer_of_move (Err MachineEnded) runs status changed = answer.Halted (halt_of_end runs)
answer_of_move (Err NoKeptStep) runs status changed = answer.Halted halt.Begin
answer_of_move (Err refusal) runs status changed = answer.Error (number_of refusal)

-- The answer to a request that sets something.
abbrev pub answer_of_set : {A : Type 0} → Result A Refusal → Answer
answer_of_set (Ok _) = answer.Done
answer_of_set (Err refusal) = answer.Error (number_of refusal)

-- gdb's signals, 0 for none, and what it asks to be told beside them.
abbrev pub text_of_halt : Bool → Halt → List ℕ
text_of_halt swbreak halt.Step = codes "T05"
text_of_halt swbreak halt.Break = if swbreak then codes "T05swbreak:;" else codes "T05"
text_of_halt swbreak halt.Begin = codes "T05replaylog:begin;"
text_of_halt swbreak halt.End = codes "T05replaylog:end;"
text_of_halt swbreak halt.Still = codes "T00"
text_of_halt swbreak halt.Limit = codes "T02"
text_of_halt swbreak halt.Memory = codes "T02"
text_of_halt swbreak halt.Access = codes "T0b"
text_of_halt swbreak halt.Fault = codes "T04"

-- The address of a watched byte that has changed.
abbrev pub watched_text : ℕ → List ℕ
watched_text address = codes "T05watch:" ++ address_text address ++ codes ";"

-- An error's number.
abbrev pub error_text : ℕ → List ℕ
error_text number = codes "E" ++ two_digits number

-- The registers have gdb's numbers. How many moves lie before the state has one of its own. Any other register has no value.
abbrev pub other_text : ℕ → ℕ → List ℕ
other_text moves n = if n == 64 then word_text moves else codes "xxxxxxxxxxxxxxxx"

abbrev pub register_text : Manners → State → ℕ → List ℕ
register_text m x n = if nat_le n 22 then word_text (value_of x n) else other_text m.moves n

-- With each stop come r10 and pc, which say in which frame the machine stands, and where gdb is told of it how many moves lie before. gdb
-- heeds registers only where a thread is named; 0 is any.
abbrev pub moves_text : Layout → ℕ → List ℕ
moves_text gdb moves = if has_moves gdb then codes "40:" ++ word_text moves ++ codes ";" else []

abbrev pub stop_text : Manners → State → List ℕ
stop_text m x = codes "thread:0;0a:" ++ word_text (value_of x 10) ++ codes ";0b:" ++ word_text (value_of x 11) ++ codes ";" ++ moves_text m.target.layout m.moves

-- The first n of them.
unfoldable pub registers_below : State → ℕ → List ℕ
registers_below x zero = []
registers_below x (suc n) = registers_below x n ++ word_text (value_of x n)

abbrev pub registers_text : Layout → State → List ℕ
registers_text gdb x = registers_below x (12 + described_again gdb)

-- The byte at an address: those of the program stand at address 0, eight a slot, those of frames at an address of their own, and else there is
-- what is present in memory.
abbrev pub byte_at : State → ℕ → Option ℕ
byte_at x address =
    if nat_lt address (length x.program.bytes) then Some (slice_index x.program.bytes address)
    else if nat_le frames_base address then frame_byte x (address - frames_base)
    else option_map (λ run. slice_index run 0) (run_at x.memory address 1)

-- The bytes at an address and after it, so many at most, up to the first that isn't there.
unfoldable pub present : State → ℕ → ℕ → List ℕ
present x address zero = []
present x address (suc count) = elim (byte_at x address) [ None ↦ [] | Some byte ↦ byte ∷ present x (address + 1) count ]

-- At most 8,192 bytes are shown at once, and none past the last address.
abbrev pub most_bytes : ℕ
most_bytes = 8192

-- Whether the first of so many bytes is there, and the last address isn't passed.
abbrev pub has_memory : State → ℕ → ℕ → Bool
has_memory x address n = nat_lt 0 n && nat_lt (address + n) (2 ^ 64) && is_some (byte_at x address)

abbrev pub memory_part : State → ℕ → ℕ → List ℕ
memory_part x address n = if has_memory x address n then hex_text (present x address n) else error_text 6

abbrev pub memory_text : State → ℕ → ℕ → List ℕ
memory_text x address count = memory_part x address (min count most_bytes)

-- What is understood.
abbrev pub supported_text : Layout → List ℕ
supported_text layout.Bpf = codes "PacketSize=4000;ReverseStep+;ReverseContinue+;swbreak+;vContSupported+;QStartNoAckMode+;ConditionalBreakpoints+"
supported_text _ = codes "PacketSize=4000;ReverseStep+;ReverseContinue+;swbreak+;vContSupported+;QStartNoAckMode+;ConditionalBreakpoints+;qXfer:features:read+"

-- A part of a text from an offset on: `l` where it ends there, `m` where more follows.
abbrev pub part_of : List ℕ → ℕ → List ℕ
part_of rest count = if nat_le (length rest) count then codes "l" ++ rest else codes "m" ++ take count rest

abbrev pub description_text : Layout → ℕ → ℕ → List ℕ
description_text gdb offset count = part_of (drop offset (described gdb)) count

-- The body of an answer.
abbrev pub text_of : Manners → State → Answer → List ℕ
text_of m x answer.Done = codes "OK"
text_of m x (answer.Error number) = error_text number
text_of m x (answer.Halted halt) = text_of_halt m.swbreak halt ++ stop_text m x
text_of m x (answer.Watched address) = watched_text address ++ stop_text m x
text_of m x answer.Actions = codes "vCont;c;C;s;S;r"
text_of m x answer.Registers = registers_text m.target.layout x
text_of m x (answer.Register n) = register_text m x n
text_of m x (answer.Memory address count) = memory_text x address count
text_of m x answer.Supported = supported_text m.target.layout
text_of m x (answer.Description offset count) = description_text m.target.layout offset count
text_of m x answer.Attached = codes "1"
text_of m x answer.Empty = []

-- An answer that is too long for a packet is an error.
abbrev pub sent : List ℕ → List ℕ
sent body = if nat_lt longest_body (length body) then error_text 16 else body
