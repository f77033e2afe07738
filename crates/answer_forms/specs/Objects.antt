-- Lines of an answer as objects of JSON.
use Rattle.std.specs.Prelude.{ℕ, true, false, if◌then◌else◌, List, [], ◌∷◌, ◌++◌, codes, flat_map, Option, Some, None}
use Rattle.std.specs.Option.{option_and_then, option_map, option_map_or}
use Rattle.counted_io.specs.Lines.{trim_start}
use Rattle.answer_forms.specs.Cuts.{behind, pieces}
use Rattle.answer_forms.specs.Json.{member, quoted}
use Rattle.answer_forms.specs.Moves.{is_part, names, parts_from}
use Rattle.answer_forms.specs.Shapes.{Pattern, fields}
use Rattle.answer_forms.specs.Tables.{patterns_of, piece_shapes}
use Rattle.answer_forms.specs.declared.answer.Answer.{Answer}
use Rattle.answer_forms.specs.declared.shape.Rest.{Rest}
use Rattle.answer_forms.specs.declared.shape.Rest.TheVariants.{Nothing, Moves, Places, Labels, Registers}

-- What is told of a move besides its parts: what it read, a shape of pieces, or else which way it went.
abbrev pub whole : List ℕ × List ℕ → Option (List ℕ)
whole (told, []) = Some told
whole (told, b ∷ s) = None

abbrev pub told_by : List Pattern → List ℕ → List ℕ
told_by [] s = member (codes "way") (quoted s)
told_by (pattern ∷ patterns) s = option_map_or (λ told. told) (option_and_then whole (fields pattern s)) (told_by patterns s)

unfoldable pub piece : List ℕ → List ℕ
piece s = option_map_or (λ read. member (codes "from") (names true read)) (behind (codes "from ") s) (told_by piece_shapes s)

unfoldable pub piece_unless_part : List ℕ → List ℕ
piece_unless_part s = if is_part s then [] else piece s

abbrev pub piece_or_part : List ℕ → List ℕ
piece_or_part s = piece_unless_part (trim_start s)

-- A move: its pieces, and then the parts among them. A place in C is such a piece.
abbrev pub places : List ℕ → List ℕ
places s = flat_map piece_or_part (pieces 59 s)

unfoldable pub moves : List ℕ → List ℕ
moves s = places s ++ member (codes "parts") (codes "[" ++ parts_from true (pieces 59 s) ++ codes "]")

-- What may follow the fields of a line.
abbrev pub rest_text : Rest → List ℕ → Option (List ℕ)
rest_text Nothing s = whole ([], s)
rest_text Moves s = Some (moves s)
rest_text Places s = Some (places s)
rest_text Labels s = Some (member (codes "labels") (names false s))
rest_text Registers s = Some (member (codes "registers") (names false s))

-- An object: its kind, and its members.
unfoldable pub object : List ℕ → List ℕ → List ℕ
object kind members = codes "{\"kind\":" ++ quoted kind ++ members ++ codes "}"

-- A line of a shape; one of some shapes, by the first that it has, and else the text that it is.
unfoldable pub object_by : List ℕ → Pattern → List ℕ → Option (List ℕ)
object_by side pattern line =
    option_and_then (λ q. option_map (λ rest. object pattern.kind (side ++ q.0 ++ rest)) (rest_text pattern.rest q.1)) (fields pattern line)

abbrev pub object_of : List ℕ → List Pattern → List ℕ → List ℕ
object_of side [] line = object (codes "text") (side ++ member (codes "text") (quoted line))
object_of side (pattern ∷ patterns) line = option_map_or (λ text. text) (object_by side pattern line) (object_of side patterns line)

-- A line of one of two runs begins with its side.
abbrev pub side_object : List ℕ → List Pattern → List ℕ → List ℕ
side_object name patterns line = object_of (member (codes "side") (quoted name)) patterns line

unfoldable pub line_object : List Pattern → List ℕ → List ℕ
line_object patterns line =
    option_map_or (λ rest. side_object (codes "<") patterns rest) (behind (codes "< ") line)
    (option_map_or (λ rest. side_object (codes ">") patterns rest) (behind (codes "> ") line) (object_of [] patterns line))

-- An answer: an object a line, each with a line feed (10).
abbrev pub ended_object : List Pattern → List ℕ → List ℕ
ended_object patterns line = line_object patterns line ++ 10 ∷ []

unfoldable pub json_of : Answer → List ℕ → List ℕ
json_of answer text = flat_map (ended_object (patterns_of answer)) (pieces 10 text)
