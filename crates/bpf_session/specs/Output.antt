-- What a script prints, in a debugger that keeps whole states, and where it ends.
use Rattle.std.specs.Prelude.{ℕ, Bool, true, false, List, [], ◌∷◌, ◌++◌, Option, Some, None, Ok, Err, if◌then◌else◌}
use Rattle.bpf_session.specs.Points.{Point, Bounds}
use Rattle.bpf_session.specs.Outcomes.{Outcome}
use Rattle.bpf_session.specs.Meaning.{does}
use Rattle.bpfdb_script.specs.Refusals.{refusal_text}
use Rattle.bpf_session.specs.Replies.{text_of_answer}
use Rattle.bpf_session.specs.Sessions.{gap_of}
use Rattle.bpfdb_script.specs.Commands.{Answer, command_of}
use Rattle.bpfdb_script.specs.declared.command.Command.{Command}
use Rattle.bpfdb_script.specs.declared.command.Command.TheVariants.{Quit}

-- What a line prints, the point that it leaves, the gap that its answer tells, and whether the session goes on.
pub record Effect : Type 0 where
  pub text : List ℕ
  pub point : Point
  pub gap : Option ℕ
  pub goes_on : Bool

-- The effect of a command's outcome.
abbrev pub effect_of : Bounds → Outcome → Effect
effect_of b o = record { text = text_of_answer b o.answer o.point; point = o.point; gap = gap_of o.answer; goes_on = true }

-- Whether a command ends the session.
abbrev pub is_quit : Command → Bool
is_quit Quit = true
is_quit _ = false

-- The effect of what a line says: no word does nothing, a refusal is printed, `quit` ends the session without a reply.
abbrev pub effect : Option ℕ → Bounds → Answer → Point → Effect
effect gap b (Ok None) p = record { text = []; point = p; gap = None; goes_on = true }
effect gap b (Err refusal) p = record { text = refusal_text refusal; point = p; gap = None; goes_on = true }
effect gap b (Ok (Some command)) p =
    if is_quit command then record { text = []; point = p; gap = None; goes_on = false }
    else effect_of b (does gap b command p)

-- The gaps of a session, one a line (None from the end of the list on): what `does` says of a command's refused move.
abbrev pub first_gap : List (Option ℕ) → Option ℕ
first_gap [] = None
first_gap (gap ∷ gaps) = gap

abbrev pub later_gaps : List (Option ℕ) → List (Option ℕ)
later_gaps [] = []
later_gaps (gap ∷ gaps) = gaps

-- What lines come to, one after another, up to the first `quit` or the last line: what they print, the gaps that their answers tell,
-- the point at which they leave the session, and the lines behind `quit`, which are left unread.
pub record Walk : Type 0 where
  pub out : List ℕ
  pub gaps : List (Option ℕ)
  pub final : Point
  pub unread : List (List ℕ)

-- The walk of a line's effect and of the lines after it.
abbrev pub after_effect : Effect → List (List ℕ) → Walk → Walk
after_effect e lines walk =
    if e.goes_on then record walk { out = e.text ++ walk.out; gaps = e.gap ∷ walk.gaps }
    else record { out = e.text; gaps = e.gap ∷ []; final = e.point; unread = lines }

abbrev pub walk : List (Option ℕ) → Bounds → List (List ℕ) → Point → Walk
walk gaps b [] p = record { out = []; gaps = []; final = p; unread = [] }
walk gaps b (line ∷ lines) p =
    let e = effect (first_gap gaps) b (command_of line) p in
    after_effect e lines (walk (later_gaps gaps) b lines e.point)
