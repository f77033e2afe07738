-- Shapes of lines: words, and fields between them.
use Rattle.std.specs.Prelude.{ℕ, Bool, true, false, if◌then◌else◌, List, [], ◌∷◌, ◌++◌, map, Option, Some, None}
use Rattle.std.specs.Option.{option_and_then, option_map}
use Rattle.answer_forms.specs.Cuts.{behind, cut_at}
use Rattle.answer_forms.specs.Json.{is_count, member, quoted}
use Rattle.answer_forms.specs.declared.shape.Field.{Field}
use Rattle.answer_forms.specs.declared.shape.Field.TheVariants.{Count, Text}
use Rattle.answer_forms.specs.declared.shape.Rest.{Rest}
use Rattle.answer_forms.specs.declared.shape.Shape.{Shape}

-- A field: the name of its member, whether it is a count, and the words behind it. Where there are none it is all that is left.
pub record Spot : Type 0 where
  pub name : List ℕ
  pub counts : Bool
  pub until : List ℕ

-- A shape: the kind of its lines, the words that they begin with, their fields, and what may follow these.
pub record Pattern : Type 0 where
  pub kind : List ℕ
  pub begin : List ℕ
  pub spots : List Spot
  pub rest : Rest

-- Those of the code.
abbrev pub spot_of : Field → Spot
spot_of (Count name until) = record { name = name.now; counts = true; until = until.now }
spot_of (Text name until) = record { name = name.now; counts = false; until = until.now }

abbrev pub pattern_of : Shape → Pattern
pattern_of s = record { kind = s.kind.now; begin = s.begin.now; spots = map spot_of s.fields.now; rest = s.rest }

-- A field of what is left of a line, and what is left behind its words; none where they don't stand there, or where a count is none.
abbrev pub reach : List ℕ → List ℕ → Option (List ℕ × List ℕ)
reach [] s = Some (s, [])
reach (b ∷ words) s = cut_at (b ∷ words) s

abbrev pub is_value : Bool → List ℕ → Bool
is_value counts s = if counts then is_count s else true

unfoldable pub value_in : Spot → List ℕ → Option (List ℕ × List ℕ)
value_in spot s = option_and_then (λ p. if is_value spot.counts p.0 then Some p else None) (reach spot.until s)

-- The member that it is.
unfoldable pub member_of : Spot → List ℕ → List ℕ
member_of spot value = member spot.name (if spot.counts then value else quoted value)

-- The members that the fields come to, and what is left behind the last one.
abbrev pub members : List Spot → List ℕ → Option (List ℕ × List ℕ)
members [] s = Some ([], s)
members (spot ∷ spots) s = option_and_then (λ p. option_map (λ q. (member_of spot p.0 ++ q.0, q.1)) (members spots p.1)) (value_in spot s)

-- The same of a line of a shape.
unfoldable pub fields : Pattern → List ℕ → Option (List ℕ × List ℕ)
fields pattern line = option_and_then (λ s. members pattern.spots s) (behind pattern.begin line)
