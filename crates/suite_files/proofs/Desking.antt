-- What was read and linked, as further pieces are put.
use Rattle.std.proofs.Common.{◌≡◌, ◌∙◌, ◌+◌, ℕ, List, add-one, ap, subst, sym}
use Rattle.std.specs.Prelude.{OnOk, Option, Result, Ok, Err, get_or}
use Rattle.std.specs.List.{All}
use Rattle.suite_files.proofs.Naming.{piece-known, piece-others}
use Rattle.suite_files.specs.Desks.{HasPaths, IsDesk, IsDone}
use Rattle.suite_files.specs.Replaced.{IsPut, no_piece, paths_first, with_piece}
use Rattle.suite_files.specs.Shelves.{IsShelf, paths_on}
use Rattle.suite_files.specs.declared.file.Desk.{Desk}
use Rattle.suite_files.specs.declared.file.Done.{Done}
use Rattle.suite_files.specs.declared.place.Place.{Place}
use Rattle.suite_files.specs.declared.shelf.Shelved.{Shelved}
use Rattle.input_texts.specs.Heads.{head_of}
use Rattle.input_texts.specs.declared.piece.Piece.{Piece}

-- a piece that was put, behind which more files were read
done-later : (bytes_at : List ℕ → Option (List ℕ)) (place : Place) (paths : List (List ℕ)) (piece : List ℕ) (done : Done) → IsDone bytes_at place paths done
    → IsDone bytes_at place (with_piece place paths piece) done
done-later bytes_at place paths piece done is = record {
  is_put = is.is_put;
  known = λ all among. is.known all (λ path there. among path (piece-others (head_of piece).word place paths piece path there));
}

pub all-later : (bytes_at : List ℕ → Option (List ℕ)) (place : Place) (paths : List (List ℕ)) (piece : List ℕ) (shelf : List Shelved) (all : List Done)
    → All (IsDone bytes_at place paths) all → IsShelf bytes_at (with_piece place paths piece) shelf → All (IsDone bytes_at place (paths_on shelf)) all
all-later bytes_at place paths piece shelf all are is =
    subst (λ (ps : List (List ℕ)). All (IsDone bytes_at place ps) all) (sym is.are) (λ k d inside. done-later bytes_at place paths piece _ (are k d inside))

-- and the piece itself
pub done-now : (bytes_at : List ℕ → Option (List ℕ)) (place : Place) (paths : List (List ℕ)) (shelf : List Shelved) (done : Done)
    → IsPut bytes_at place done.piece.now done.put.items → IsShelf bytes_at (with_piece place paths done.piece.now) shelf
    → IsDone bytes_at place (paths_on shelf) done
done-now bytes_at place paths shelf done put is =
    subst (λ (ps : List (List ℕ)). IsDone bytes_at place ps done) (sym is.are) (record {
      is_put = put;
      known = λ all among. piece-known (head_of done.piece.now).word place paths done.piece.now all among;
    })

-- what holds whatever is answered
pub on-all : {A E P : Type 0} (r : Result A E) → P → OnOk r P
on-all (Ok v) p = p
on-all (Err e) p = tt

-- the same piece again
pub desk-again : (bytes_at : List ℕ → Option (List ℕ)) (place : Place) (desk : Desk) (done : Done) (piece : List ℕ) → IsDesk bytes_at place desk
    → IsDone bytes_at place (paths_on desk.shelf.items) done → done.piece.now ≡ piece
    → HasPaths bytes_at place (with_piece place (paths_on desk.shelf.items) piece) desk
desk-again bytes_at place desk done piece is known same = record {
  is_desk = is;
  are = sym (ap (with_piece place (paths_on desk.shelf.items)) (sym same) ∙ known.known (paths_on desk.shelf.items) (λ path there. there));
}

-- one piece more
pub paths-more : (bytes_at : List ℕ → Option (List ℕ)) (place : Place) (all : List Piece) (k : ℕ) (one : Piece) (paths : List (List ℕ)) (desk : Desk)
    → one ≡ get_or all k no_piece → paths ≡ paths_first place all k → HasPaths bytes_at place (with_piece place paths one.text) desk
    → HasPaths bytes_at place (paths_first place all (k + 1)) desk
paths-more bytes_at place all k one paths desk is same has =
    rw add-one (subst (λ (ps : List (List ℕ)). HasPaths bytes_at place (with_piece place ps (get_or all k no_piece).text) desk) same
    (subst (λ (p : Piece). HasPaths bytes_at place (with_piece place paths p.text) desk) is has))
