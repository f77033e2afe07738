-- How many moves lie before the state of a connection, from its beginning on: those that are kept, and those that the journal dropped.
use Rattle.std.specs.Prelude.{ℕ, ◌+◌, ◌-◌, ◌^◌, min, Result, Ok}
use Rattle.bpfdb_script.specs.declared.command.Command.{Command}
use Rattle.bpfdb_script.specs.declared.command.Command.TheVariants as command
use Rattle.bpfdb_script.specs.declared.refusal.Refusal.{Refusal}
use Rattle.bpf_session.specs.declared.reply.Reply.{Reply}
use Rattle.bpf_session.specs.declared.reply.Reply.TheVariants as reply

-- They are counted up to 2^64 - 1.
abbrev pub counted : ℕ → ℕ
counted moves = min moves (2 ^ 64 - 1)

-- An edit is a move; no other command that is just done is one.
abbrev pub made_by : Command → ℕ
made_by (command.Edit edit) = 1
made_by _ = 0

-- Behind a command, by its answer: so many more, or fewer where it went back.
abbrev pub moves_after : Result Reply Refusal → Command → ℕ → ℕ
moves_after (Ok (reply.Forward steps why)) command moves = counted (moves + steps)
moves_after (Ok (reply.Back taken why)) command moves = moves - taken
moves_after (Ok (reply.Redone made why)) command moves = counted (moves + made)
moves_after (Ok reply.Ok) command moves = counted (moves + made_by command)
moves_after _ command moves = moves
