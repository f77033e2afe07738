-- The stop of a strict session: before the first step of its run that reads the stack where nothing was written, as long as no edit lies before the state.
-- bpfdb's own choice.
use Rattle.std.specs.Prelude.{◌-◌, ◌==◌, ◌&&◌, ℕ, nat_le, nat_lt, Bool, true, false, List, [], ◌++◌, Option, Some, None, Result, Ok, Err, decimal, if◌then◌else◌}
use Rattle.std.specs.Option.{option_map_or}
use lib.Chars.{codes}
use Rattle.bpf_remote.specs.Moves.{moves_after}
use Rattle.bpf_session.specs.Points.{Bounds, Point, within}
use Rattle.bpf_session.specs.Replies.{text_of_answer}
use Rattle.bpf_session.specs.declared.reply.Reply.{Reply}
use Rattle.bpf_session.specs.declared.reply.Reply.TheVariants as reply
use Rattle.bpf_steps.specs.State.{State}
use Rattle.bpfdb_script.specs.Texts.{place}
use Rattle.bpfdb_script.specs.declared.command.Command.{Command}
use Rattle.bpfdb_script.specs.declared.command.Command.TheVariants as command
use Rattle.bpfdb_script.specs.declared.refusal.Refusal.{Refusal}
use Rattle.bpf_questions.specs.declared.stop.Past.{Past}
use Rattle.bpf_questions.specs.declared.stop.Stop.{Stop}
use Rattle.bpf_questions.specs.declared.view.View.{View}

-- Whether no edit lies before a state.
abbrev pub is_unedited : Past → Bool
is_unedited past = option_map_or (λ before. nat_le past.moves before) past.edit true

-- How many steps it is to the stop behind so many moves, where it is ahead.
abbrev pub steps_to : Option Stop → ℕ → Option ℕ
steps_to None moves = None
steps_to (Some stop) moves = if nat_lt moves stop.steps then Some (stop.steps - moves) else None

abbrev pub ahead : View → Past → Option ℕ
ahead v past = if is_unedited past then steps_to v.stop past.moves else None

-- A forward command takes no more of them.
abbrev pub bounded : Option ℕ → Bounds → Bounds
bounded None b = b
bounded (Some steps) b = within steps b

-- It came there where it took them all.
abbrev pub there : Option ℕ → Result Reply Refusal → Option ℕ
there (Some steps) (Ok (reply.Forward taken why)) = if taken == steps then Some steps else None
there _ _ = None

-- That is told, in the place of why it stopped otherwise.
abbrev pub strict_line : ℕ → State → List ℕ
strict_line steps x = decimal steps ++ codes " forward; strict; " ++ place x ++ codes "\n"

abbrev pub answer_text : Option ℕ → Bounds → Result Reply Refusal → Point → List ℕ
answer_text (Some steps) b answer p = strict_line steps p.state
answer_text None b answer p = text_of_answer b answer p

-- What is told behind it: the line of the stop; and behind an edit that there is none any more. (No command stops before its first step: of a
-- read by the first step of all the line is told behind the command that made it.)
abbrev pub edits : Result Reply Refusal → Command → Bool
edits (Ok said) (command.Edit edit) = true
edits answer asked = false

abbrev pub is_told : ℕ → ℕ → ℕ → Bool
is_told stop moves steps = if nat_lt moves stop then stop - moves == steps else stop == 0 && moves == 0

abbrev pub stop_told : Option Stop → ℕ → Result Reply Refusal → List ℕ
stop_told (Some stop) moves (Ok (reply.Forward steps why)) = if is_told stop.steps moves steps then stop.text.now else []
stop_told _ moves answer = []

abbrev pub behind_strict : View → ℕ → Command → Result Reply Refusal → List ℕ
behind_strict v moves asked answer =
    if edits answer asked then codes "not strict behind an edit\n" else stop_told v.stop moves answer

abbrev pub behind : View → Past → Command → Result Reply Refusal → List ℕ
behind v past asked answer = if v.is_strict && is_unedited past then behind_strict v past.moves asked answer else []

-- What lies before the state then. A new move behind no edit forgets one that was taken back.
abbrev pub edit_forgotten : Result Reply Refusal → Option ℕ → Option ℕ
edit_forgotten (Ok (reply.Forward steps why)) edit = None
edit_forgotten answer edit = edit

abbrev pub edit_after : Result Reply Refusal → Command → Past → Option ℕ
edit_after answer asked past =
    if is_unedited past then (if edits answer asked then Some past.moves else edit_forgotten answer past.edit) else past.edit

abbrev pub past_after : Result Reply Refusal → Command → Past → Past
past_after answer asked past = record {
  moves = moves_after answer asked past.moves;
  edit = edit_after answer asked past;
}
