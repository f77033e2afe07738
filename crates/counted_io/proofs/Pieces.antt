-- Pieces that are written one after another.
use Rattle.std.proofs.Common.{ℕ, ◌≡◌, ◌+◌, ◌<◌, length, List, [], ◌∷◌, ◌++◌, take, get_or, Option, Result, refl, sym, ap, ◌∙◌}
use Rattle.std.proofs.lemmas.List.{append-nil, take_more}
use Rattle.std.proofs.Math.Seq.{take-length}
use Rattle.counted_io.specs.Counted.{Tally}
use Rattle.counted_io.specs.Pieces.{piece_text, text_of, with_pieces}
use Rattle.counted_io.specs.Writing.{WritesAfter}
use Rattle.counted_io.specs.declared.piece.Piece.{Piece}
use Rattle.counted_io.proofs.Appending.{WritesAfter-WritesAfter, WritesAfter-text}

with_pieces-push : (text : List ℕ) (ps : List Piece) (p : Piece) → with_pieces text ps ++ piece_text p ≡ with_pieces text (ps ++ p ∷ [])
with_pieces-push text [] p = refl
with_pieces-push text (q ∷ ps) p = with_pieces-push (text ++ piece_text q) ps p

-- one piece more
pub text_of-push : (ps : List Piece) (p : Piece) → text_of ps ++ piece_text p ≡ text_of (ps ++ p ∷ [])
text_of-push [] p = refl
text_of-push (q ∷ ps) p = with_pieces-push (piece_text q) ps p

-- nothing is written yet
pub none_written : {T A E : Type 0} (contents : T → Option (List ℕ)) (a : Tally T) (q : Result A E) → WritesAfter contents a q a q []
none_written contents a q = λ first front known. rw (append-nil front) known

-- the next piece is written after those before
pub next_written : {T A E : Type 0} (contents : T → Option (List ℕ)) (a b c : Tally T) (p q r : Result A E)
    (pieces : List Piece) (i : ℕ) (d : Piece) → i < length pieces
    → WritesAfter contents a p b q (text_of (take i pieces)) → WritesAfter contents b q c r (piece_text (get_or pieces i d))
    → WritesAfter contents a p c r (text_of (take (i + 1) pieces))
next_written contents a b c p q r pieces i d within before more =
    WritesAfter-WritesAfter contents a b c p q r (text_of (take i pieces)) (piece_text (get_or pieces i d)) (text_of (take (i + 1) pieces)) before more
    (text_of-push (take i pieces) (get_or pieces i d) ∙ ap text_of (sym (take_more pieces i d within)))

-- all are written
pub all_written : {T A E : Type 0} (contents : T → Option (List ℕ)) (a b : Tally T) (p q : Result A E)
    (pieces : List Piece) (i : ℕ) → i ≡ length pieces → WritesAfter contents a p b q (text_of (take i pieces))
    → WritesAfter contents a p b q (text_of pieces)
all_written contents a b p q pieces i all written =
    WritesAfter-text contents a b p q (text_of (take i pieces)) (text_of pieces) written
    (ap (λ n. text_of (take n pieces)) all ∙ ap text_of (take-length pieces))
