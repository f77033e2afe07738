-- The rows that tell of a part's slots: SLOT FILE:LINE FUNCTION.
use Rattle.std.specs.Prelude.{ℕ, ◌+◌, ◌*◌, ◌==◌, if◌then◌else◌, List, [], ◌∷◌, ◌++◌, Option, Some, None, codes, decimal, slice_index}
use Rattle.bpf_link.specs.Names.{built, short_at}
use Rattle.bpf_link.specs.Plans.{symbol_place}
use Rattle.bpf_link.specs.Tables.{symbol_at}
use Rattle.bpf_link.specs.declared.plan.Plan.{Plan}
use Rattle.bpfdb_script.specs.Shown.{shown}
use Rattle.bpf_lines.specs.Functions.{function_at}
use Rattle.bpf_lines.specs.LineInfo.{line_at, line_entry, record_place}
use Rattle.bpf_link.specs.declared.parts.Part.{Part}
use Rattle.bpf_lines.specs.Slots.{function_of, line_of}
use Rattle.bpf_lines.specs.declared.line_info.LineEntry.{LineEntry}
use Rattle.bpf_lines.specs.declared.part_lines.PartLines.{PartLines}
use Rattle.bpf_lines.specs.declared.rows.Said.{Said}

-- A word of a row: a name as it is shown; a hyphen where there is none.
abbrev pub word_of : List ℕ → List ℕ
word_of [] = codes "-"
word_of (byte ∷ name) = shown (byte ∷ name)

-- A function, by its symbol.
abbrev pub function_word : Plan → Option ℕ → List ℕ
function_word plan None = word_of []
function_word plan (Some i) = word_of (short_at plan.object.bytes (symbol_place plan (symbol_at plan.symbols i)))

-- A line, by its record: the file's name, at most 255 bytes of it, and the line's number. Line 0 says that there is none.
abbrev pub entry_word : List ℕ → LineEntry → List ℕ
entry_word strings entry = if entry.line == 0 then codes "-" else word_of (short_at strings entry.file) ++ codes ":" ++ decimal entry.line

abbrev pub line_word : List ℕ → List ℕ → Option ℕ → Option ℕ → List ℕ
line_word strings listed (Some block) (Some i) = entry_word strings (line_entry listed (record_place listed block i))
line_word strings listed (Some block) None = codes "-"
line_word strings listed None line = codes "-"

-- The row of a slot of the program, by its number and what is said of it.
abbrev pub row_text : Plan → PartLines → ℕ → Said → List ℕ
row_text plan told number said =
    decimal number ++ codes " " ++ line_word told.strings told.listed told.block said.line ++ codes " " ++ function_word plan said.function
    ++ codes "\n"

-- None where no instruction begins: the second slot of a wide load begins with 0, as no instruction does.
abbrev pub row_by : Plan → PartLines → List ℕ → ℕ → Said → List ℕ
row_by plan told words number said = if slice_index words (8 * number) == 0 then [] else row_text plan told number said

-- What is said of a slot of the part: its function and its line.
abbrev pub said_in : Plan → Part → PartLines → ℕ → Said
said_in plan part told slot = record {
  function = function_of (function_at plan part.section) slot;
  line = line_of (function_at plan part.section) (line_at told.listed told.block) slot;
}

-- The rows of so many slots of a part, whose first one is a slot of the program.
abbrev pub with_row : Plan → Part → PartLines → List ℕ → ℕ → ℕ → List ℕ → List ℕ
with_row plan part told words first slot text = text ++ row_by plan told words (first + slot) (said_in plan part told slot)

abbrev pub rows : Plan → Part → PartLines → List ℕ → ℕ → ℕ → List ℕ
rows plan part told words first count = built (with_row plan part told words first) count
