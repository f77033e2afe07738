-- Where the values at some places came from: one pass over a history, the newest move first.
use Rattle.std.specs.Prelude.{◌≡◌, ◌≤◌, ℕ, ◌+◌, ◌-◌, nat_lt, ◌==◌, if◌then◌else◌, Bool, List, [], ◌∷◌, ◌++◌, Result, length, map}
use Rattle.counted_io.specs.declared.fault.WriteFault.{WriteFault}
use Rattle.bpf_machine.specs.Moves.{overwritten}
use Rattle.bpf_steps.specs.State.{State}
use Rattle.bpf_journal.specs.Histories.{Record}
use Rattle.bpf_journal.specs.Tracks.{Track}
use Rattle.bpf_origin.specs.declared.place.Place.{Place}
use Rattle.bpf_origin.specs.declared.question.Question.{Question}
use Rattle.bpf_origin.specs.declared.question.Extent.{Extent}
use Rattle.bpf_origin.specs.declared.question.Extent.TheVariants.{Whole, Lines, Places}
use Rattle.bpf_origin.specs.declared.question.Told.{Told}
use Rattle.bpf_origin.specs.Pasts.{IsSameKeeper, StandsThere, gone_from}
use Rattle.bpf_origin.specs.Writes.{written}
use Rattle.bpf_origin.specs.Reads.{followed}
use Rattle.bpf_origin.specs.Wanted.{most_places, want_parts, are_hit, still_wanted}
use Rattle.bpf_origin.specs.Rows.{Row, moved, text_of_rows}
use Rattle.bpf_origin.specs.Rows.Row.{Cut, Left}
use Rattle.bpf_origin.specs.Texts.{parts_left}

-- What is told, and how far it goes: to the end, or cut.
pub record Answer : Type 0 where
  pub text : List ℕ
  pub extent : Extent

abbrev pub with_line : List ℕ → Answer → Answer
with_line text a = record a { text = text ++ a.text }

-- The places that are wanted before a move that wrote some of them.
abbrev pub wanted_before : Question → Record → State → List Place → List Place
wanted_before q r y wanted =
    want_parts (still_wanted y (overwritten r.before r.move) wanted) (followed q.addresses r.before r.move)

-- The rows of an answer, and how far it goes.
pub record Rows : Type 0 where
  pub rows : List Row
  pub extent : Extent

abbrev pub with_row : Row → Rows → Rows
with_row row a = record a { rows = row ∷ a.rows }

abbrev pub cut_at : Extent → Rows
cut_at e = record { rows = Cut e ∷ []; extent = e }

abbrev pub rows_left : Bool → State → List Place → List Row
rows_left opening y wanted = map (Left opening y) (parts_left wanted)

-- After k moves, with room for n of them: a move that wrote a wanted place is told; that place is no longer wanted, and what the move
-- read is. What is wanted at the end is left.
unfoldable pub rows_from : Question → ℕ → ℕ → List Place → List Record → State → Rows
rows_from q k n wanted [] y = record { rows = rows_left q.opening y wanted; extent = Whole }
rows_from q k n wanted (r ∷ h) y =
    if are_hit (written y (overwritten r.before r.move)) wanted then
    (if n == 0 then cut_at Lines
    else with_row (moved q.addresses (k + 1) r y)
    (if nat_lt most_places (length (wanted_before q r y wanted)) then cut_at Places
    else rows_from q (k + 1) (n - 1) (wanted_before q r y wanted) h r.before))
    else rows_from q (k + 1) n (still_wanted y (overwritten r.before r.move) wanted) h r.before

-- The answer: the texts of its rows, one after the other.
abbrev pub told : Question → Rows → Answer
told q a = record { text = text_of_rows q.places a.rows; extent = a.extent }

abbrev pub answer : Question → ℕ → ℕ → List Place → List Record → State → Answer
answer q k n wanted h y = told q (rows_from q k n wanted h y)

-- What is known of a kind of history: the present state, the tracks that it follows, its room, and how often its keeper has refused.
pub record KnownPast (P : Type 0) : Type 1 where
  pub state : P → State
  pub follows : P → Track → Type 0
  pub size : P → ℕ
  pub refusals : P → ℕ

abbrev pub past_by : {P : Type 0} → (P → State) → (P → Track → Type 0) → (P → ℕ) → (P → ℕ) → KnownPast P
past_by state follows size refusals = record { state = state; follows = follows; size = size; refusals = refusals }

-- The answer was written, and the moves that were taken back for it can be made again.
pub record TellsOrigin {P : Type 0} (by : KnownPast P) (answers : Track → Answer) (old new : P)
    (writes : Result (Unit {0}) WriteFault → List ℕ → Type 0) (told : Told) : Type 0 where
  pub text : (t : Track) → by.follows old t → writes told.written (answers t).text
  pub extent : (t : Track) → by.follows old t → told.extent ≡ (answers t).extent
  pub back : (t : Track) → by.follows old t → StandsThere by.state by.follows new (gone_from told.moves t (by.state old))
  pub within : (t : Track) → by.follows old t → told.moves ≤ length t.history
  pub keeper : IsSameKeeper by.size by.refusals old new
