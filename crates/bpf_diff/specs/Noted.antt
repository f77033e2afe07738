-- Scaffolding: no public contract cites this. The last writers of registers, noted step by step; and a run that goes along a trace.
use Rattle.std.specs.Prelude.{◌≡◌, ◌≤◌, ◌<◌, ◌+◌, ◌-◌, ◌*◌, ◌⊎◌, ℕ, suc, Bool, true, false, List, [], ◌∷◌, ◌++◌, codes, Option, Some, None, drop, get_or}
use Rattle.std.specs.Borrow.{Bor}
use Rattle.bpf_entries.specs.Status.{has_ended}
use Rattle.bpf_steps.specs.Runs.{Steps}
use Rattle.bpf_steps.specs.State.{State}
use Rattle.bpf_steps.specs.declared.change.Change.{Change}
use Rattle.bpf_steps.specs.declared.change.Change.TheVariants.{Set, Fetch, Call, Cell, Trace}
use Rattle.bpf_origin.specs.Places.{depth_for}
use Rattle.bpf_origin.specs.declared.place.Place.TheVariants as place
use Rattle.bpf_trace.specs.Runs.{steps_of}
use Rattle.bpf_trace.specs.Taken.{Took}
use Rattle.bpf_trace.specs.declared.taken.Taken.{Taken}
use Rattle.bpf_diff.specs.Against.{agreed, details, here, says, there}
use Rattle.bpf_diff.specs.Differences.{heading}
use Rattle.bpf_diff.specs.Writers.{last_step, last_writer, no_step}
use Rattle.input_texts.specs.declared.trace_form.Form.{Form}
use Rattle.input_texts.specs.declared.trace_form.Form.TheVariants.{Steps as Lines}
use Rattle.bpf_diff.specs.declared.told_writers.Writer.{Writer}

-- Where the note of a register at a depth stands, and how many notes there are.
abbrev pub note_room : ℕ
note_room = 80

abbrev pub note_at : ℕ → ℕ → ℕ
note_at d r = d * 10 + r

-- The notes tell of each register which step wrote it last, and of the last step.
pub record AreNotes (before : List State) (notes : List Writer) (newest : Writer) : Type 0 where
  pub each : (d r : ℕ) → d < 8 → r < 10
      → get_or notes (note_at (depth_for d r) r) no_step ≡ last_writer before (place.Register (depth_for d r) r)
  pub last : newest ≡ last_step before

-- The register that a change writes, and whether it calls a function.
abbrev pub register_of : Change → Option ℕ
register_of (Set r value after) = Some r
register_of (Fetch a at size value r after) = Some r
register_of (Cell a from n after) = Some 0
register_of (Trace word after) = Some 0
register_of c = None

abbrev pub calls : Change → Bool
calls (Call to) = true
calls c = false

-- So many steps were taken, each of which the trace tells; those that it tells from there on follow.
pub record Along (form : Form) (limit : ℕ) (x : State) (told : List (List ℕ)) (a : State) (left : List (List ℕ)) (n : ℕ) : Type 0 where
  pub steps : Steps x a n
  pub within : n ≤ limit
  pub lines : drop n told ≡ left
  pub rest : agreed form 1 (steps_of limit x) told ≡ n + agreed form (suc n) (steps_of (limit - n) a) left

-- The next line of what is left, if there is one.
abbrev pub Leaves : List (List ℕ) → Option (Bor (List ℕ)) → List (List ℕ) → Type 0
Leaves left None rest = (left ≡ []) × (rest ≡ [])
Leaves left (Some line) rest = left ≡ line.now ∷ rest

abbrev pub IsOtherwise : Form → ℕ → State → Option (Bor (List ℕ)) → Type 0
IsOtherwise form k x None = Unit {0}
IsOtherwise form k x (Some line) = says form k x line.now ≡ false

-- They go along up to a state and a line; there the run is over, or the line doesn't tell the next step.
pub record Halts (form : Form) (limit : ℕ) (x : State) (told : List (List ℕ)) (a : State) (n : ℕ) (line : Option (Bor (List ℕ)))
    (rest : List (List ℕ)) : Type 0 where
  pub left : List (List ℕ)
  pub along : Along form limit x told a left n
  pub next : Leaves left line rest

abbrev pub IsOver : ℕ → ℕ → State → Type 0
IsOver limit n a = (n ≡ limit) ⊎ (has_ended a.status ≡ true)

abbrev pub Stops : Form → ℕ → ℕ → State → Option (Bor (List ℕ)) → Type 0
Stops form limit n a line = IsOver limit n a ⊎ IsOtherwise form (suc n) a line

-- The next step, which the line doesn't tell, was taken, if there is one.
abbrev pub HaltsBehind : ℕ → State → List (List ℕ) → State → ℕ → Option (Bor (List ℕ)) → List (List ℕ) → Option Taken → Type 0
HaltsBehind limit x told y n line rest None = Halts Lines limit x told y n line rest × IsOver limit n y
HaltsBehind limit x told y n line rest (Some taken) = (p : State) × Halts Lines limit x told p n line rest × (n < limit)
    × (has_ended p.status ≡ false) × Took p y taken × IsOtherwise Lines (suc n) p line

-- The next line as a list of lines; and what is told where it doesn't tell the next step.
abbrev pub next_lines : Option (Bor (List ℕ)) → List (List ℕ)
next_lines None = []
next_lines (Some line) = line.now ∷ []

abbrev pub otherwise_text : Form → ℕ → List State → State → Option (Bor (List ℕ)) → List ℕ
otherwise_text form n before x None = heading (n + 1) (codes " is not in the trace\n") ++ here form (n + 1) x
otherwise_text form n before x (Some line) =
    heading (n + 1) (codes " is told otherwise\n") ++ here form (n + 1) x ++ there line.now ++ details form before x line.now
