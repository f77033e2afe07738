-- A text in pieces.
use Rattle.std.specs.Prelude.{List, [], ◌∷◌, ◌++◌, ℕ, decimal}
use Rattle.std.specs.Fmt.{signed_decimal}
use Rattle.counted_io.specs.Writing.{hexadecimal}
use Rattle.counted_io.specs.declared.piece.Piece.{Piece}
use Rattle.counted_io.specs.declared.piece.Piece.TheVariants.{Text, Decimal, Signed, Hexadecimal}

-- The text of a piece.
abbrev pub piece_text : Piece → List ℕ
piece_text (Text text) = text.now
piece_text (Decimal n) = decimal n
piece_text (Signed z) = signed_decimal z
piece_text (Hexadecimal n) = hexadecimal n

-- A text, and those of pieces behind it.
abbrev pub with_pieces : List ℕ → List Piece → List ℕ
with_pieces text [] = text
with_pieces text (piece ∷ pieces) = with_pieces (text ++ piece_text piece) pieces

-- The texts of pieces, one after another.
abbrev pub text_of : List Piece → List ℕ
text_of [] = []
text_of (piece ∷ pieces) = with_pieces (piece_text piece) pieces
