-- What stands in place of a piece that names files. A form feed (12) ends a line there that isn't counted, so that what follows stands in its own line.
use Rattle.std.specs.Prelude.{ℕ, ◌==◌, if◌then◌else◌, List, [], ◌∷◌, ◌++◌, codes, filter, length, map}
use Rattle.hex.specs.Hex.{encode_lower}

-- The line feeds of a piece, each of which stays.
abbrev pub feeds : List ℕ → List ℕ
feeds piece = filter (λ b. b == 10) piece

-- A section with the bytes of the context.
abbrev pub memory_text : List ℕ → List ℕ
memory_text bytes = (codes "-- mem" ++ 12 ∷ []) ++ encode_lower bytes

-- Sections with the words of a program, and with its maps, if it has some.
abbrev pub with_maps : List ℕ → List ℕ → List ℕ
with_maps text maps = if length maps == 0 then text else (text ++ 12 ∷ codes "-- maps" ++ 12 ∷ []) ++ maps

abbrev pub words_text : List ℕ → List ℕ → List ℕ
words_text words maps = with_maps ((codes "-- words" ++ 12 ∷ []) ++ encode_lower words) maps

-- The same with a section of a table, if it has rows. Form feeds end them, too.
abbrev pub row_byte : ℕ → ℕ
row_byte b = if b == 10 then 12 else b

abbrev pub with_lines : List ℕ → List ℕ → List ℕ
with_lines text table = if length table == 0 then text else (text ++ 12 ∷ codes "-- lines" ++ 12 ∷ []) ++ map row_byte table
