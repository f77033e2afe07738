-- Cells of maps, as sections name them: a line each, with the number of a map, an index, and digits. bpfdb's own choice.
use Rattle.std.specs.Prelude.{ℕ, ◌/◌, Bool, ◌==◌, ◌&&◌, ◌||◌, nat_le, if◌then◌else◌, List, drop, length, filter_map, Option, Some, None, is_some}
use Rattle.std.specs.List.{before_first, list_all, position_or_len, slice_split}
use Rattle.std.specs.Option.{option_and_then, option_map}
use Rattle.counted_io.specs.Lines.{is_blank, trim_start}
use Rattle.bpf_suite.specs.Bodies.{bytes_of, is_pattern, number_of, solid}
use Rattle.bpf_suite.specs.declared.cells.Cell.{Cell}
use Rattle.bpf_suite.specs.declared.cells.CellLine.{CellLine}

-- A text's first word, and what stands behind it and the blanks that follow.
abbrev pub word : List ℕ → List ℕ
word text = before_first is_blank text

abbrev pub behind_word : List ℕ → List ℕ
behind_word text = trim_start (drop (position_or_len is_blank text) text)

-- A line about a cell, by its words and its digits.
abbrev pub line_of : List ℕ → List ℕ → List ℕ → Option CellLine
line_of map index digits =
    option_and_then (λ m. option_map (λ i. record { map = m; index = i; digits = digits }) (number_of index)) (number_of map)

-- What a text without blanks in front says of a cell, None where it says nothing of one; and a line.
abbrev pub words_of : List ℕ → Option CellLine
words_of text = line_of (word text) (word (behind_word text)) (behind_word (behind_word text))

abbrev pub cell_line : List ℕ → Option CellLine
cell_line line = words_of (trim_start line)

-- The lines of a section, and what they say of cells.
abbrev pub lines : List ℕ → List (List ℕ)
lines body = slice_split (λ b. b == 10) body

abbrev pub cell_lines : List ℕ → List CellLine
cell_lines body = filter_map cell_line (lines body)

-- A line that is blank, or says something of a cell.
abbrev pub is_cell_line : List ℕ → Bool
is_cell_line line = length (trim_start line) == 0 || is_some (cell_line line)

-- A value has 1 to 256 bytes.
abbrev pub is_value_len : ℕ → Bool
is_value_len n = nat_le 1 n && nat_le n 256

-- The value that a line's digits are, and a cell with it.
abbrev pub sized : List ℕ → Option (List ℕ)
sized bytes = if is_value_len (length bytes) then Some bytes else None

abbrev pub value_of : CellLine → Option (List ℕ)
value_of line = option_and_then sized (bytes_of line.digits)

abbrev pub cell_of : CellLine → Option Cell
cell_of line = option_map (λ value. record { map = line.map; index = line.index; value = value }) (value_of line)

-- The cells that a section gives values to, in the order of its lines.
abbrev pub cells_of : List ℕ → List Cell
cells_of body = filter_map cell_of (cell_lines body)

-- Whether a section gives values to cells.
abbrev pub are_cells : List ℕ → Bool
are_cells body = list_all is_cell_line (lines body) && list_all (λ line. is_some (value_of line)) (cell_lines body)

-- Whether a section says by patterns what cells hold.
abbrev pub has_pattern : CellLine → Bool
has_pattern line = is_pattern (solid line.digits) && is_value_len (length (solid line.digits) / 2)

abbrev pub are_patterns : List ℕ → Bool
are_patterns body = list_all is_cell_line (lines body) && list_all has_pattern (cell_lines body)
