-- What an answer means: run again along the same path from any state that agrees on the places that are left, and the value is the same.
use Rattle.std.specs.Prelude.{◌≡◌, ℕ, ◌+◌, Bool, true, false, if◌then◌else◌, List, [], ◌∷◌, ◌++◌, flat_map, length, slice_get, take}
use Rattle.std.specs.List.{range_with_len}
use Rattle.std.specs.Option.{option_map_or}
use Rattle.bpf_journal.specs.Histories.{Record, IsRun}
use Rattle.bpf_journal.specs.Lookups.{state_before}
use Rattle.bpf_machine.specs.Moves.{overwritten}
use Rattle.bpf_steps.specs.State.{State}
use Rattle.bpf_machine.specs.declared.moves.Move.TheVariants as move
use Rattle.bpf_origin.specs.declared.place.Place.{Place}
use Rattle.bpf_origin.specs.declared.question.Question.{Question}
use Rattle.bpf_origin.specs.declared.question.Extent.TheVariants.{Whole}
use Rattle.bpf_origin.specs.Answers.{rows_from, rows_left}
use Rattle.bpf_origin.specs.Laws.{StandAlike, Agree, AgreeOn}
use Rattle.bpf_origin.specs.Places.{IsPlace}
use Rattle.bpf_origin.specs.Reads.{bases, conditions, followed, reads}
use Rattle.bpf_origin.specs.Rows.{Row, moved}
use Rattle.bpf_origin.specs.Wanted.{is_in, want_parts, are_hit, still_wanted}
use Rattle.bpf_origin.specs.Writes.{written}

-- The state before the first move of a history that leads to y.
abbrev pub oldest : List Record → State → State
oldest [] y = y
oldest (r ∷ h) y = oldest h r.before

-- What is wanted before a move that led to y, whether it wrote some of the wanted places or none.
abbrev pub passed : Bool → Record → State → List Place → List Place
passed addresses r y wanted =
    if are_hit (written y (overwritten r.before r.move)) wanted then
    want_parts (still_wanted y (overwritten r.before r.move) wanted) (followed addresses r.before r.move)
    else still_wanted y (overwritten r.before r.move) wanted

-- What is wanted before all moves of a history: the places that are left.
unfoldable pub left_of : Bool → List Place → List Record → State → List Place
left_of addresses wanted [] y = wanted
left_of addresses wanted (r ∷ h) y = left_of addresses (passed addresses r y wanted) h r.before

-- Two histories go along one path with the same addresses: the same moves from states that stand alike, each of which writes the same
-- places and reads at the same addresses. Where an answer follows addresses too, that they read at the same ones need not be asked.
abbrev pub GoAlike : Bool → List Record → State → List Record → State → Type 0
GoAlike addresses [] y [] w = StandAlike y w
GoAlike addresses (r ∷ h) y (s ∷ g) w =
    StandAlike y w × (s.move ≡ r.move) × (written y (overwritten r.before r.move) ≡ written w (overwritten s.before r.move))
    × (addresses ≡ false → AgreeOn (bases r.before r.move) r.before s.before) × GoAlike addresses h r.before g s.before
GoAlike addresses h y g w = ⊥

-- They are places of a state.
abbrev pub ArePlaces : State → List Place → Type 0
ArePlaces y places = (p : Place) → is_in p places ≡ true → IsPlace y p

-- Two histories that go alike, from states that agree on the places that are left, lead to states that agree on the places asked for.
abbrev pub LeftIsAll : Type 0
LeftIsAll =
    (addresses : Bool) (wanted : List Place) (h : List Record) (y : State) (g : List Record) (w : State) →
    IsRun h y → IsRun g w → GoAlike addresses h y g w → ArePlaces y wanted →
    Agree (left_of addresses wanted h y) (oldest h y) (oldest g w) → Agree wanted y w

-- What is told of the move with i newer ones, after k moves that were told before: its row, just if it wrote a place that the newer ones
-- left wanted.
abbrev pub told_by : Question → ℕ → State → List Place → Record → List Row
told_by q k y wanted r = if are_hit (written y (overwritten r.before r.move)) wanted then moved q.addresses k r y ∷ [] else []

abbrev pub told_at : Question → ℕ → List Place → List Record → State → ℕ → List Row
told_at q k wanted h y i =
    option_map_or (told_by q (k + i + 1) (state_before i h y) (left_of q.addresses wanted (take i h) y)) (slice_get h i) []

-- An answer that is not cut has these rows, from the newest move to the oldest, and then a row for each place that is left, with its value
-- in the oldest state.
abbrev pub RowsAreHits : Type 0
RowsAreHits =
    (q : Question) (k n : ℕ) (wanted : List Place) (h : List Record) (y : State) → (rows_from q k n wanted h y).extent ≡ Whole →
    (rows_from q k n wanted h y).rows
    ≡ flat_map (told_at q k wanted h y) (range_with_len 0 (length h)) ++ rows_left q.opening (oldest h y) (left_of q.addresses wanted h y)

-- Two runs of steps, from states that stand alike, agree before each step on all that it reads, the registers of its addresses and of its
-- condition among that.
abbrev pub RunAlike : List Record → State → List Record → State → Type 0
RunAlike [] y [] w = StandAlike y w
RunAlike (r ∷ h) y (s ∷ g) w =
    (r.move ≡ move.Step) × (s.move ≡ move.Step)
    × AgreeOn (reads r.before move.Step ++ (bases r.before move.Step ++ conditions r.before move.Step)) r.before s.before
    × RunAlike h r.before g s.before
RunAlike h y g w = ⊥

-- So they go alike: whoever sees that they do needs to look at nothing else.
abbrev pub AgreeingRunsGoAlike : Type 0
AgreeingRunsGoAlike =
    (addresses : Bool) (h : List Record) (y : State) (g : List Record) (w : State) → IsRun h y → IsRun g w → RunAlike h y g w →
    GoAlike addresses h y g w
