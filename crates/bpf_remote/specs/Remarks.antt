-- What gdb's user is told beside an answer, in a packet of its own.
use Rattle.std.specs.Prelude.{ℕ, nat_lt, decimal, if◌then◌else◌, Bool, true, false, List, [], ◌++◌}
use lib.Chars.{codes}
use Rattle.bpf_entries.specs.Status.{has_ended}
use Rattle.bpf_steps.specs.State.{State}
use Rattle.bpfdb_script.specs.Texts.{place}
use Rattle.bpf_remote.specs.Numbers.{hex_text}
use Rattle.bpf_remote.specs.declared.answer.Answer.{Answer}
use Rattle.bpf_remote.specs.declared.answer.Answer.TheVariants as answer
use Rattle.bpf_remote.specs.declared.answer.Halt.TheVariants as halt
use Rattle.bpf_remote.specs.declared.remark.Remark.{Remark}
use Rattle.bpf_remote.specs.declared.remark.Remark.TheVariants as remark
use Rattle.bpf_remote.specs.declared.request.Request.{Request}
use Rattle.bpf_remote.specs.declared.request.Request.TheVariants as request

-- Where the machine has ended, a line PLACE.
abbrev pub remark_of_end : State → Remark
remark_of_end x = if has_ended x.status then remark.Place else remark.Nothing

-- Beside the answer to a move: the limit of steps that was reached; at the beginning how many moves were dropped before it, if any.
abbrev pub remark_of_move : Answer → State → ℕ → ℕ → Remark
remark_of_move (answer.Halted halt.Limit) x limit dropped = remark.Limit limit
remark_of_move (answer.Halted halt.Begin) x limit dropped = if nat_lt 0 dropped then remark.Dropped dropped else remark_of_end x
remark_of_move _ x limit dropped = remark_of_end x

-- Beside any other, nothing.
abbrev pub remark_of : Request → Answer → State → ℕ → ℕ → Remark
remark_of (request.Move command) told x limit dropped = remark_of_move told x limit dropped
remark_of (request.Range from to) told x limit dropped = remark_of_move told x limit dropped
remark_of _ told x limit dropped = remark.Nothing

abbrev pub is_told : Remark → Bool
is_told remark.Nothing = false
is_told _ = true

-- The lines.
unfoldable pub limit_text : ℕ → List ℕ
limit_text limit = codes "limit of " ++ decimal limit ++ codes " steps: continue goes on"

unfoldable pub dropped_text : ℕ → List ℕ
dropped_text dropped = codes "the journal dropped " ++ decimal dropped ++ codes " older moves: --journal keeps more"

abbrev pub remark_text : Remark → State → List ℕ
remark_text remark.Nothing x = []
remark_text remark.Place x = place x
remark_text (remark.Limit limit) x = limit_text limit
remark_text (remark.Dropped dropped) x = dropped_text dropped

-- The body of the packet of a line.
abbrev pub console_text : List ℕ → List ℕ
console_text line = codes "O" ++ hex_text (line ++ codes "\n")
