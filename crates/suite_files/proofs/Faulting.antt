-- Why no file of tests comes of a piece.
use Rattle.std.proofs.Common.{◌≡◌, ◌++◌, ℕ, List, Result, Ok, Err, inr, subst}
use Rattle.std.specs.Prelude.{IfErr, IfOk, Option}
use Rattle.suite_files.specs.Refused.{IsPieceFault, IsTooLong}
use Rattle.suite_files.specs.Replaced.{IsPut}
use Rattle.suite_files.specs.declared.fault.FilesFault.{FilesFault}
use Rattle.suite_files.specs.declared.place.Place.{Place}
use Rattle.input_texts.specs.declared.piece.Piece.{Piece}

-- with what stands in its place the text is too long
pub long-piece : (bytes_at : List ℕ → Option (List ℕ)) (place : Place) (paths : List (List ℕ)) (before : List ℕ) (piece : Piece) (put : List ℕ)
    → IsPut bytes_at place piece.text put → (line : ℕ) (bytes : List ℕ) (fault : FilesFault) → line ≡ piece.line → bytes ≡ put → IsTooLong line (before ++ bytes) fault
    → IsPieceFault bytes_at place paths before piece fault
long-piece bytes_at place paths before piece put is line bytes fault same alike why =
    let told = subst (λ (n : ℕ). IsTooLong n (before ++ bytes) fault) same why in
    inr (put, is, subst (λ (b : List ℕ). IsTooLong piece.line (before ++ b) fault) alike told)

pub long-pieces : {A : Type 0} (bytes_at : List ℕ → Option (List ℕ)) (place : Place) (paths : List (List ℕ)) (before : List ℕ) (piece : Piece) (put : List ℕ)
    → IsPut bytes_at place piece.text put → (line : ℕ) (bytes : List ℕ) (r : Result A FilesFault) → line ≡ piece.line → bytes ≡ put
    → IfErr r (IsTooLong line (before ++ bytes)) → IfErr r (IsPieceFault bytes_at place paths before piece)
long-pieces bytes_at place paths before piece put is line bytes (Ok a) same alike why = tt
long-pieces bytes_at place paths before piece put is line bytes (Err fault) same alike why =
    long-piece bytes_at place paths before piece put is line bytes fault same alike why

-- what is known of a result that is known
pub of-ok : {A E : Type 0} (P : A → Type 0) (r : Result A E) (a : A) → r ≡ Ok a → IfOk r P → P a
of-ok {A = A} {E = E} P r a is p = subst (λ (q : Result A E). IfOk q P) is p

pub of-err : {A E : Type 0} (P : E → Type 0) (r : Result A E) (e : E) → r ≡ Err e → IfErr r P → P e
of-err {A = A} {E = E} P r e is p = subst (λ (q : Result A E). IfErr q P) is p
