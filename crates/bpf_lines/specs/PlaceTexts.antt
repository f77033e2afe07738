-- What a table of `bpfdb lines --object` tells of each slot: where it stands in C, as it ends the line of a branch there, `; in FUNCTION (FILE:LINE)`,
-- or its function. bpfdb's own choice.
use Rattle.std.specs.Prelude.{ℕ, if◌then◌else◌, List, [], ◌∷◌, ◌++◌, Option, Some, None, codes, replicate, set}
use Rattle.std.specs.Option.{option_and_then}
use Rattle.std.specs.Str.{bytes_eq}
use Rattle.counted_io.specs.Cuts.{after, before}
use Rattle.counted_io.specs.Lines.{lines}
use Rattle.counted_io.specs.Numerals.{as_u64, natural}
use Rattle.bpf_lines.specs.TableRows.{behind_last, function_in, line_in}
use Rattle.bpf_lines.specs.declared.place_texts.SlotText.{SlotText}
use Rattle.bpf_lines.specs.declared.place_texts.SlotText.TheVariants.{Place, Function}

-- By what a row tells. Of the file's path it is what stands behind the last slash (47). No byte where the line isn't known, for which a hyphen stands.
unfoldable pub place_text : List ℕ → List ℕ
place_text told =
    if bytes_eq (line_in told) (codes "-") then []
    else codes "; in " ++ function_in told ++ codes " (" ++ behind_last 47 (line_in told) ++ codes ")"

-- The name of its function, where that is known.
unfoldable pub function_text : List ℕ → List ℕ
function_text told = if bytes_eq (function_in told) (codes "-") then [] else function_in told

-- Which of the two.
abbrev pub text_by : SlotText → List ℕ → List ℕ
text_by Place told = place_text told
text_by Function told = function_text told

-- A row tells of the slot whose number stands before its first blank (32).
abbrev pub slot_by : List ℕ → Option ℕ
slot_by number = option_and_then as_u64 (natural number)

abbrev pub with_text : SlotText → List (List ℕ) → Option ℕ → List ℕ → List (List ℕ)
with_text kind texts None told = texts
with_text kind texts (Some slot) told = set texts slot (text_by kind told)

abbrev pub with_row : SlotText → List (List ℕ) → List ℕ → List (List ℕ)
with_row kind texts row = with_text kind texts (slot_by (before 32 row)) (after 32 row)

abbrev pub with_rows : SlotText → List (List ℕ) → List (List ℕ) → List (List ℕ)
with_rows kind texts [] = texts
with_rows kind texts (row ∷ rows) = with_rows kind (with_row kind texts row) rows

-- The texts of so many slots. One of which no row tells has no byte.
abbrev pub texts_told : SlotText → ℕ → List ℕ → List (List ℕ)
texts_told kind count table = with_rows kind (replicate count []) (lines table)

abbrev pub places_told : ℕ → List ℕ → List (List ℕ)
places_told count table = texts_told Place count table

abbrev pub functions_told : ℕ → List ℕ → List (List ℕ)
functions_told count table = texts_told Function count table
