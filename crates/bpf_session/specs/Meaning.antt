-- What each command means, in a debugger that keeps whole states.
use Rattle.std.specs.Prelude.{ℕ, Option}
use Rattle.bpf_session.specs.Points.{Point, Bounds}
use Rattle.bpf_session.specs.Outcomes.{Outcome, replied, unless_refused}
use Rattle.bpf_session.specs.Refused.{refusals_of}
use Rattle.bpf_session.specs.Forward.{forward}
use Rattle.bpf_session.specs.Backward.{back}
use Rattle.bpf_session.specs.Redo.{redo}
use Rattle.bpf_session.specs.Tables.{edit, with_stop, without_stop}
use Rattle.bpfdb_script.specs.declared.command.Command.{Command}
use Rattle.bpfdb_script.specs.declared.command.Command.TheVariants as command
use Rattle.bpf_session.specs.declared.reply.Reply.TheVariants as reply

-- What a command comes to where it is not refused. The gap is None where the keeper keeps each of its moves, and else how many
-- it kept before the one that it refused.
unfoldable pub accepted : Option ℕ → Bounds → Command → Point → Outcome
accepted gap b (command.Forward goal) p = forward gap b goal p
accepted gap b (command.Back target) p = back target p
accepted gap b (command.Redo count) p = redo gap count p
accepted gap b (command.Edit e) p = edit gap b.room e p
accepted gap b (command.Add stop) p = replied reply.Ok (with_stop stop p)
accepted gap b (command.Remove stop) p = replied reply.Ok (without_stop stop p)
accepted gap b (command.Show view) p = replied (reply.Shown view) p
accepted gap b command.Quit p = replied reply.Nothing p

-- What a command comes to.
abbrev pub does : Option ℕ → Bounds → Command → Point → Outcome
does gap b c p = unless_refused (refusals_of c p) p (accepted gap b c p)
