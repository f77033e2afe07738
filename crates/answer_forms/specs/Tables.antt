-- The shapes of the lines that bpfdb prints, by what was asked. bpfdb's own choice.
use Rattle.std.specs.Prelude.{ℕ, true, false, List, [], ◌∷◌, ◌++◌, codes}
use Rattle.answer_forms.specs.Shapes.{Pattern, Spot}
use Rattle.answer_forms.specs.declared.answer.Answer.{Answer}
use Rattle.answer_forms.specs.declared.answer.Answer.TheVariants.{Value, Run, Profile, Calls, Check, Listing, Lines, Program, Report}
use Rattle.answer_forms.specs.declared.shape.Rest.{Rest}
use Rattle.answer_forms.specs.declared.shape.Rest.TheVariants.{Nothing, Moves, Places, Labels, Registers}

-- A field that is a count, or a text, up to the words behind it.
abbrev pub count : List ℕ → List ℕ → Spot
count name until = record { name = name; counts = true; until = until }

abbrev pub text : List ℕ → List ℕ → Spot
text name until = record { name = name; counts = false; until = until }

abbrev pub shape : List ℕ → List ℕ → List Spot → Rest → Pattern
shape kind begin spots rest = record { kind = kind; begin = begin; spots = spots; rest = rest }

-- Steps as `trace` tells them, and moves by how far back they are.
abbrev pub step_shapes : List Pattern
step_shapes =
    shape (codes "step") []
    (count (codes "step") (codes " ") ∷ count (codes "slot") (codes ": ") ∷ text (codes "insn") (codes "; ") ∷ []) Moves
    ∷ shape (codes "step") [] (count (codes "step") (codes " ") ∷ count (codes "slot") (codes ": ") ∷ text (codes "insn") [] ∷ []) Moves
    ∷ shape (codes "move") (codes "-") (count (codes "moves") (codes " ") ∷ []) Moves
    ∷ shape (codes "kept") (codes "kept: -") (count (codes "moves") (codes " ") ∷ []) Moves
    ∷ shape (codes "made") (codes "made: -") (count (codes "moves") (codes " ") ∷ []) Moves
    ∷ shape (codes "overwritten") (codes "overwritten: -") (count (codes "moves") (codes " ") ∷ []) Moves
    ∷ shape (codes "left") (codes "left ") [] Moves
    ∷ []

-- Where a program stands, and how it ended, with the place in C; and without.
abbrev pub told_place_shapes : List Pattern
told_place_shapes =
    shape (codes "at") (codes "at ") (count (codes "slot") (codes ": ") ∷ text (codes "insn") (codes "; ") ∷ []) Places
    ∷ shape (codes "exited") (codes "exited at ") (count (codes "slot") (codes ": r0 ") ∷ text (codes "r0") (codes "; ") ∷ []) Places
    ∷ shape (codes "fault") (codes "fault ") (text (codes "fault") (codes " at ") ∷ count (codes "slot") (codes "; ") ∷ []) Places
    ∷ shape (codes "limit") (codes "step limit ") (count (codes "limit") (codes " reached at ") ∷ count (codes "slot") (codes "; ") ∷ []) Places
    ∷ shape (codes "unwritten") (codes "read of ")
    (text (codes "address") (codes " at ") ∷ count (codes "slot") (codes ": not written since the call; ") ∷ []) Places
    ∷ []

abbrev pub place_shapes : List Pattern
place_shapes =
    shape (codes "at") (codes "at ") (count (codes "slot") (codes ": ") ∷ text (codes "insn") [] ∷ []) Nothing
    ∷ shape (codes "exited") (codes "exited at ") (count (codes "slot") (codes ": r0 ") ∷ text (codes "r0") [] ∷ []) Nothing
    ∷ shape (codes "fault") (codes "fault ") (text (codes "fault") (codes " at ") ∷ count (codes "slot") [] ∷ []) Nothing
    ∷ shape (codes "limit") (codes "step limit ") (count (codes "limit") (codes " reached at ") ∷ count (codes "slot") [] ∷ []) Nothing
    ∷ shape (codes "unwritten") (codes "read of ")
    (text (codes "address") (codes " at ") ∷ count (codes "slot") (codes ": not written since the call") ∷ []) Nothing
    ∷ []

-- What is said of two runs, and of a slot that was reached.
abbrev pub sentence_shapes : List Pattern
sentence_shapes =
    shape (codes "reached") (codes "it was reached ") (count (codes "moves") (codes " moves back") ∷ []) Nothing
    ∷ shape (codes "same") (codes "same for ") (count (codes "steps") (codes " steps") ∷ []) Nothing
    ∷ shape (codes "parting") (codes "step ") (count (codes "step") (codes " ") ∷ text (codes "how") [] ∷ []) Nothing
    ∷ shape (codes "registers") [] (count (codes "slot") (codes " ") ∷ []) Registers
    ∷ shape (codes "entry") []
    (text (codes "entry") (codes ": ") ∷ text (codes "here") (codes " here, ")
    ∷ text (codes "there") (codes " there; here by step ") ∷ count (codes "step") (codes ", ") ∷ count (codes "slot") (codes ": ")
    ∷ text (codes "insn") [] ∷ []) Nothing
    ∷ shape (codes "entry") []
    (text (codes "entry") (codes ": ") ∷ text (codes "here") (codes " here, ")
    ∷ text (codes "there") (codes " there; here since the start") ∷ []) Nothing
    ∷ shape (codes "entry") []
    (text (codes "entry") (codes ": ") ∷ text (codes "here") (codes " here, ") ∷ text (codes "there") (codes " there") ∷ []) Nothing
    ∷ shape (codes "ends") []
    (text (codes "place") (codes " ends otherwise: ") ∷ text (codes "here") (codes ", ") ∷ text (codes "there") [] ∷ []) Nothing
    ∷ shape (codes "same") (codes "same writes") [] Nothing
    ∷ []

-- What is told of a move besides its parts.
abbrev pub piece_shapes : List Pattern
piece_shapes =
    shape [] [] (count (codes "slot") (codes ": ") ∷ text (codes "insn") [] ∷ []) Nothing
    ∷ shape [] (codes "then at ") (count (codes "to") [] ∷ []) Nothing
    ∷ shape [] (codes "in ") (text (codes "function") (codes " (") ∷ text (codes "file") (codes ":") ∷ count (codes "line") (codes ")") ∷ []) Nothing
    ∷ shape [] (codes "in ") (text (codes "name") [] ∷ []) Nothing
    ∷ shape [] (codes "called by ")
    (text (codes "caller") (codes " (") ∷ text (codes "caller_file") (codes ":") ∷ count (codes "caller_line") (codes ")") ∷ []) Nothing
    ∷ shape [] (codes "initial value of ") (text (codes "initial") [] ∷ []) Nothing
    ∷ shape [] [] (text (codes "way") (codes " to ") ∷ count (codes "to") [] ∷ []) Nothing
    ∷ shape [] (codes "byte ") (count (codes "byte") (codes " of the context") ∷ []) Nothing
    ∷ shape [] (codes "at the ") (text (codes "since") [] ∷ []) Nothing
    ∷ shape [] (codes "before the ") (text (codes "since") [] ∷ []) Nothing
    ∷ shape [] (codes "not written since the ") (text (codes "since") [] ∷ []) Nothing
    ∷ []

-- The result of `run`, with the name of a verdict, or without.
abbrev pub value_shapes : List Pattern
value_shapes =
    shape (codes "result") [] (text (codes "r0") (codes " ") ∷ text (codes "verdict") [] ∷ []) Nothing
    ∷ shape (codes "result") [] (text (codes "r0") [] ∷ []) Nothing
    ∷ []

-- How often each instruction ran, with its place in C or without.
abbrev pub profile_shapes : List Pattern
profile_shapes =
    shape (codes "ran") [] (count (codes "count") (codes " ") ∷ count (codes "slot") (codes ": ") ∷ text (codes "insn") (codes "; ") ∷ []) Moves
    ∷ shape (codes "ran") [] (count (codes "count") (codes " ") ∷ count (codes "slot") (codes ": ") ∷ text (codes "insn") [] ∷ []) Nothing
    ∷ []

-- Calls with what they returned, with their places in C or without.
abbrev pub call_shapes : List Pattern
call_shapes =
    shape (codes "call") []
    (count (codes "step") (codes " ") ∷ count (codes "slot") (codes ": ") ∷ text (codes "name") (codes "(") ∷ text (codes "args") (codes ") = ")
    ∷ text (codes "result") (codes "; ") ∷ []) Moves
    ∷ shape (codes "call") []
    (count (codes "step") (codes " ") ∷ count (codes "slot") (codes ": ") ∷ text (codes "name") (codes "(") ∷ text (codes "args") (codes ") = ")
    ∷ text (codes "result") [] ∷ []) Nothing
    ∷ []

-- What the checker accepted.
abbrev pub check_shapes : List Pattern
check_shapes =
    shape (codes "ok") (codes "ok ")
    (count (codes "instructions") (codes " instructions in ") ∷ count (codes "slots") (codes " slots") ∷ []) Nothing
    ∷ []

-- Lines of a listing: a label, or an instruction.
abbrev pub listing_shapes : List Pattern
listing_shapes =
    shape (codes "label") [] (text (codes "label") (codes ":") ∷ []) Nothing
    ∷ shape (codes "insn") [] (text (codes "insn") [] ∷ []) Nothing
    ∷ []

-- Where slots stand: in a function of C, and in a line of it; and in a line of a listing, with labels or without.
abbrev pub line_shapes : List Pattern
line_shapes =
    shape (codes "line") [] (count (codes "slot") (codes " - ") ∷ text (codes "function") [] ∷ []) Nothing
    ∷ shape (codes "line") []
    (count (codes "slot") (codes " ") ∷ text (codes "file") (codes ":") ∷ count (codes "line") (codes " ")
    ∷ text (codes "function") [] ∷ []) Nothing
    ∷ shape (codes "line") [] (count (codes "slot") (codes " ") ∷ count (codes "line") (codes " ") ∷ []) Labels
    ∷ shape (codes "line") [] (count (codes "slot") (codes " ") ∷ count (codes "line") [] ∷ []) Labels
    ∷ []

-- The maps of a program: with a name, or without.
abbrev pub map_shapes : List Pattern
map_shapes =
    shape (codes "map") (codes "map ")
    (count (codes "map") (codes ": ") ∷ count (codes "value") (codes "x") ∷ count (codes "entries") (codes " at ")
    ∷ text (codes "address") (codes " ") ∷ text (codes "name") [] ∷ []) Nothing
    ∷ shape (codes "map") (codes "map ")
    (count (codes "map") (codes ": ") ∷ count (codes "value") (codes "x") ∷ count (codes "entries") (codes " at ")
    ∷ text (codes "address") [] ∷ []) Nothing
    ∷ []

-- What of a program is other than Linux's: a function or a kind of maps, and how.
abbrev pub difference_shapes : List Pattern
difference_shapes =
    shape (codes "differs") (codes "other than Linux: ") (text (codes "name") (codes " ") ∷ text (codes "how") [] ∷ []) Nothing
    ∷ []

-- A report on tests, and what follows those that failed, and on what ran.
abbrev pub report_shapes : List Pattern
report_shapes =
    shape (codes "plan") (codes "1..") (count (codes "tests") [] ∷ []) Nothing
    ∷ shape (codes "passed") (codes "ok ") (count (codes "test") (codes " - ") ∷ text (codes "name") [] ∷ []) Nothing
    ∷ shape (codes "passed") (codes "ok ") (count (codes "test") [] ∷ []) Nothing
    ∷ shape (codes "failed") (codes "not ok ") (count (codes "test") (codes " - ") ∷ text (codes "name") [] ∷ []) Nothing
    ∷ shape (codes "failed") (codes "not ok ") (count (codes "test") [] ∷ []) Nothing
    ∷ shape (codes "place") (codes "# the test in line ") (count (codes "line") [] ∷ []) Nothing
    ∷ shape (codes "came") (codes "# came: ") (text (codes "came") [] ∷ []) Nothing
    ∷ shape (codes "wanted") (codes "# wanted: ") (text (codes "wanted") [] ∷ []) Nothing
    ∷ shape (codes "debug") (codes "# debug: ") (text (codes "debug") [] ∷ []) Nothing
    ∷ shape (codes "byte") (codes "# byte ") (count (codes "byte") (codes " came: ") ∷ text (codes "came") [] ∷ []) Nothing
    ∷ shape (codes "byte") (codes "# byte ") (count (codes "byte") (codes " wanted: ") ∷ text (codes "wanted") [] ∷ []) Nothing
    ∷ shape (codes "length") (codes "# bytes of the context: ") (count (codes "context") (codes ", of mem-after: ") ∷ count (codes "after") [] ∷ []) Nothing
    ∷ shape (codes "cell") (codes "# cell ")
    (count (codes "map") (codes " ") ∷ count (codes "index") (codes " came: ") ∷ text (codes "came") [] ∷ []) Nothing
    ∷ shape (codes "cell") (codes "# cell ")
    (count (codes "map") (codes " ") ∷ count (codes "index") (codes " wanted: ") ∷ text (codes "wanted") [] ∷ []) Nothing
    ∷ shape (codes "cells") (codes "# more wrong cells: ") (count (codes "more") [] ∷ []) Nothing
    ∷ shape (codes "cover") (codes "# cover of the program in line ")
    (count (codes "line") (codes ": ") ∷ count (codes "ran") (codes " of ")
    ∷ count (codes "instructions") (codes " instructions, ") ∷ count (codes "both") (codes " of ")
    ∷ count (codes "branches") (codes " branches both ways") ∷ []) Nothing
    ∷ shape (codes "missed") (codes "# never ")
    (text (codes "never") (codes ": ") ∷ count (codes "slot") (codes ": ") ∷ text (codes "insn") [] ∷ []) Nothing
    ∷ []

-- Those of an answer.
abbrev pub patterns_of : Answer → List Pattern
patterns_of Value = value_shapes
patterns_of Run = step_shapes ++ told_place_shapes ++ place_shapes ++ sentence_shapes
patterns_of Profile = profile_shapes ++ told_place_shapes ++ place_shapes
patterns_of Calls = call_shapes ++ told_place_shapes ++ place_shapes
patterns_of Check = check_shapes
patterns_of Listing = listing_shapes
patterns_of Lines = line_shapes
patterns_of Program = check_shapes ++ map_shapes ++ difference_shapes ++ line_shapes
patterns_of Report = report_shapes
