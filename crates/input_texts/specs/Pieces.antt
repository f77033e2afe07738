-- The pieces of a file of tests: its sections, where the heads that say how an object is linked stand in the piece of that object.
use Rattle.std.specs.Prelude.{ℕ, ◌+◌, Bool, ◌==◌, ◌&&◌, false, not, if◌then◌else◌, List, [], ◌∷◌, ◌++◌}
use Rattle.input_texts.specs.Heads.{head_of, is_head}
use Rattle.input_texts.specs.Words.{is_option}
use Rattle.input_texts.specs.declared.piece.Piece.{Piece}

-- A head that begins a piece.
abbrev pub is_main : List ℕ → Bool
is_main s = is_head s && not (is_option (head_of s).word)

-- A line feed (10) that such a head follows.
abbrev pub is_cut : List ℕ → Bool
is_cut [] = false
is_cut (b ∷ s) = b == 10 && is_main s

-- A text up to the next such head.
abbrev pub until_cut : List ℕ → List ℕ
until_cut [] = []
until_cut (b ∷ s) = if is_cut (b ∷ s) then b ∷ [] else b ∷ until_cut s

-- What stands in front of all pieces.
abbrev pub front : List ℕ → List ℕ
front text = if is_main text then [] else until_cut text

-- The piece at the beginning of a text, if it begins with a head of one.
abbrev pub piece_at : ℕ → List ℕ → List Piece
piece_at line text = if is_main text then record { line = line; text = until_cut text } ∷ [] else []

-- The pieces whose heads stand behind line feeds of a text that begins in a line.
abbrev pub pieces_behind : ℕ → List ℕ → List Piece
pieces_behind line [] = []
pieces_behind line (b ∷ s) =
    if b == 10 then piece_at (line + 1) s ++ pieces_behind (line + 1) s else pieces_behind line s

-- The pieces of a file.
abbrev pub pieces : List ℕ → List Piece
pieces text = piece_at 1 text ++ pieces_behind 1 text
