-- Two runs, compared: what is told of them, and the values in which they differ. bpfdb's own choice.
use Rattle.std.specs.Prelude.{◌≡◌, ℕ, ◌+◌, Bool, List, [], ◌∷◌, ◌++◌, if◌then◌else◌, drop, flat_map, option_map, Option, Some, None}
use lib.Chars.{codes}
use Rattle.counted_io.specs.Lines.{lines}
use Rattle.bpf_steps.specs.State.{State}
use Rattle.bpf_origin.specs.declared.place.Part.{Part}
use Rattle.bpf_origin.specs.declared.place.Part.TheVariants as part
use Rattle.bpf_origin.specs.declared.place.Place.{Place}
use Rattle.bpf_origin.specs.declared.place.Place.TheVariants.{Register, Word, Byte}
use Rattle.bpf_session.specs.Plain.{plain_end}
use Rattle.bpf_trace.specs.Runs.{steps_of}
use Rattle.bpf_diff.specs.Alike.{same_slot, wrote}
use Rattle.bpf_diff.specs.Differences.{alike_for, diff_text, end_alike}
use Rattle.bpf_diff.specs.Outputs.{last_write, write_alike, writes_text}
use Rattle.bpf_diff.specs.Seen.{first_place, seen}
use Rattle.bpf_diff.specs.declared.diff.Compared.{Compared}
use Rattle.bpf_diff.specs.declared.texts.BothTexts.{BothTexts}
use Rattle.bpf_diff.specs.declared.values.Values.{Values}

-- Values of a run: what stands in these parts behind so many of its steps.
pub record Value : Type 0 where
  pub steps : ℕ
  pub parts : List Part

-- Those of two runs, in which these differ.
abbrev pub Pair : Type 0
Pair = Value × Value

-- What the first step wrote in each run that did not do alike, of these, if both stood at one slot.
abbrev pub values_by : ℕ → List State → List State → Option Pair
values_by k (x ∷ xs) (y ∷ ys) =
    if same_slot x y then Some (record { steps = k; parts = wrote x }, record { steps = k; parts = wrote y }) else None
values_by k xs ys = None

abbrev pub values_of_steps : List State → List State → Option Pair
values_of_steps xs ys = values_by (alike_for xs ys + 1) (drop (alike_for xs ys) xs) (drop (alike_for xs ys) ys)

-- What stands at a place, if something does, behind the step that wrote it last.
abbrev pub part_at : Place → Part
part_at (Register d r) = part.Register d r
part_at (Word i) = part.Word i
part_at (Byte a) = part.Bytes a 1

abbrev pub parts_seen : Place → Option ℕ → List Part
parts_seen p None = []
parts_seen p (Some v) = part_at p ∷ []

abbrev pub value_left : Place → Option ℕ → ℕ → Value
value_left p v n = record { steps = n; parts = parts_seen p v }

-- Of two runs with these steps that ended so: at the first place at which they ended otherwise.
abbrev pub values_left : List State → List State → State → State → Place → Pair
values_left xs ys x y p = (value_left p (seen x p) (last_write p xs), value_left p (seen y p) (last_write p ys))

-- What is told of two runs; whether they are the same, or leave the same; and in which values they differ.
pub record Comparison : Type 0 where
  pub text : List ℕ
  pub same : Bool
  pub values : Option Pair

-- By their steps, and by what they leave. Lines of steps end with what is told of their slots.
abbrev pub by_steps : BothTexts → ℕ → State → State → Comparison
by_steps texts limit x y = record {
  text = diff_text texts limit x y;
  same = end_alike limit x y;
  values = values_of_steps (steps_of limit x) (steps_of limit y);
}

abbrev pub values_between : List ℕ → List ℕ → List State → List State → State → State → Option Pair
values_between c d xs ys x y = option_map (values_left xs ys x y) (first_place c d x y)

abbrev pub by_writes : BothTexts → ℕ → List ℕ → List ℕ → State → State → Comparison
by_writes texts limit c d x y = record {
  text = writes_text texts limit c d x y;
  same = write_alike limit c d x y;
  values = values_between c d (steps_of limit x) (steps_of limit y) (plain_end limit x) (plain_end limit y);
}

-- What was found of it.
abbrev pub value_of : Values → Value
value_of v = record { steps = v.steps; parts = v.parts.items }

abbrev pub pair_of : Option (Values × Values) → Option Pair
pair_of found = option_map (λ v. (value_of v.0, value_of v.1)) found

pub record Finds (found : Compared) (told : Comparison) : Type 0 where
  pub same : found.is_same ≡ told.same
  pub values : pair_of found.values ≡ told.values

-- A text with a mark before each of its lines.
unfoldable pub marked_line : List ℕ → List ℕ → List ℕ
marked_line mark line = mark ++ line ++ codes "\n"

abbrev pub marked : List ℕ → List ℕ → List ℕ
marked mark text = flat_map (marked_line mark) (lines text)
