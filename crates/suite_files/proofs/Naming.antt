-- The paths of files that were read, as further ones are named.
use Rattle.std.proofs.Common.{◌≡◌, ◌∙◌, ◌<◌, ◌++◌, ⊎_elim, [], ◌∷◌, ℕ, suc, zero, Bool, true, false, cond, List, ap, arith, get_or, length, refl, subst}
use Rattle.std.proofs.lemmas.Bool.{cases_lt}
use Rattle.std.proofs.lemmas.List.Folds.{list_any-append}
use Rattle.std.proofs.lemmas.Slice.Eq.{bytes_eq-Decides}
use Rattle.std.specs.Prelude.{◌||◌}
use Rattle.std.specs.Str.{bytes_eq}
use Rattle.suite_files.specs.Desks.{AreAmong}
use Rattle.suite_files.specs.Replaced.{capture_name, with_objects, with_piece_by}
use Rattle.suite_files.specs.Shelves.{is_among, path_of, with_names, with_path}
use Rattle.suite_files.specs.declared.place.Place.{Place}
use Rattle.input_texts.specs.Heads.{head_of}
use Rattle.input_texts.specs.Options.{option_lines, values_of}
use Rattle.input_texts.specs.declared.word.Word.{Word}
use Rattle.input_texts.specs.declared.word.Word.TheVariants as word

-- a text is the same as itself
pub bytes_eq-same : (text : List ℕ) → bytes_eq text text ≡ true
bytes_eq-same text = (bytes_eq-Decides text text).1 refl

-- one more path
pub or-true : (b : Bool) → (b || true) ≡ true
or-true true = refl
or-true false = refl

among-last : (path : List ℕ) (paths : List (List ℕ)) → is_among path (paths ++ path ∷ []) ≡ true
among-last path paths =
    list_any-append (λ p. bytes_eq p path) paths (path ∷ []) ∙ ap (λ b. is_among path paths || (b || false)) (bytes_eq-same path)
    ∙ or-true (is_among path paths)

pub with-among : (paths : List (List ℕ)) (path : List ℕ) → is_among path paths ≡ true → with_path paths path ≡ paths
with-among paths path e = ap (λ b. cond b paths (paths ++ path ∷ [])) e

pub with-new : (paths : List (List ℕ)) (path : List ℕ) → is_among path paths ≡ false → with_path paths path ≡ paths ++ path ∷ []
with-new paths path e = ap (λ b. cond b paths (paths ++ path ∷ [])) e

has-it : (paths : List (List ℕ)) (path : List ℕ) (b : Bool) → is_among path paths ≡ b → is_among path (with_path paths path) ≡ true
has-it paths path true e = ap (is_among path) (with-among paths path e) ∙ e
has-it paths path false e = ap (is_among path) (with-new paths path e) ∙ among-last path paths

has-others : (paths : List (List ℕ)) (other : List ℕ) (b : Bool) → is_among other paths ≡ b → AreAmong paths (with_path paths other)
has-others paths other true e path there = ap (is_among path) (with-among paths other e) ∙ there
has-others paths other false e path there =
    ap (is_among path) (with-new paths other e) ∙ list_any-append (λ p. bytes_eq p path) paths (other ∷ [])
    ∙ ap (λ b. b || is_among path (other ∷ [])) there

pub path-among : (paths : List (List ℕ)) (path : List ℕ) → is_among path (with_path paths path) ≡ true
path-among paths path = has-it paths path (is_among path paths) refl

pub others-among : (paths : List (List ℕ)) (other : List ℕ) → AreAmong paths (with_path paths other)
others-among paths other = has-others paths other (is_among other paths) refl

-- those of names
names-others : (place : Place) (paths names : List (List ℕ)) (n : ℕ) → AreAmong paths (with_names place paths names n)
names-others place paths names zero path there = there
names-others place paths names (suc n) path there =
    others-among (with_names place paths names n) (path_of place (get_or names n [])) path (names-others place paths names n path there)

last-among : (place : Place) (paths names : List (List ℕ)) (n k : ℕ) → n ≡ k
    → is_among (path_of place (get_or names k [])) (with_names place paths names (suc n)) ≡ true
last-among place paths names n k same =
    subst (λ (m : ℕ). is_among (path_of place (get_or names m [])) (with_names place paths names (suc n)) ≡ true) same
    (path-among (with_names place paths names n) (path_of place (get_or names n [])))

names-among : (place : Place) (paths names : List (List ℕ)) (n k : ℕ) → k < n → is_among (path_of place (get_or names k [])) (with_names place paths names n) ≡ true
names-among place paths names zero k below = absurd (omega arith)
names-among place paths names (suc n) k below =
    ⊎_elim
    (λ lower.
    others-among (with_names place paths names n) (path_of place (get_or names n [])) (path_of place (get_or names k []))
    (names-among place paths names n k lower))
    (λ last. last-among place paths names n k (omega arith)) (cases_lt k n)

names-known : (place : Place) (all names : List (List ℕ)) (n : ℕ) → ((k : ℕ) → k < n → is_among (path_of place (get_or names k [])) all ≡ true)
    → with_names place all names n ≡ all
names-known place all names zero known = refl
names-known place all names (suc n) known =
    ap (λ (paths : List (List ℕ)). with_path paths (path_of place (get_or names n []))) (names-known place all names n (λ k below. known k (omega arith)))
    ∙ with-among all (path_of place (get_or names n [])) (known n (omega arith))

-- those of an object, and of others that are joined to it
objects-others : (place : Place) (paths with : List (List ℕ)) (object : List ℕ) → AreAmong paths (with_objects place paths with object)
objects-others place paths with object path there =
    others-among (with_names place paths with (length with)) (path_of place object) path (names-others place paths with (length with) path there)

objects-known : (place : Place) (paths with : List (List ℕ)) (object : List ℕ) (all : List (List ℕ)) → AreAmong (with_objects place paths with object) all
    → with_objects place all with object ≡ all
objects-known place paths with object all among =
    let before = with_names place paths with (length with) in
    ap (λ (found : List (List ℕ)). with_path found (path_of place object))
    (names-known place all with (length with)
    (λ k below. among (path_of place (get_or with k []))
    (others-among before (path_of place object) (path_of place (get_or with k [])) (names-among place paths with (length with) k below))))
    ∙ with-among all (path_of place object) (among (path_of place object) (path-among before (path_of place object)))

path-known : (paths : List (List ℕ)) (path : List ℕ) (all : List (List ℕ)) → AreAmong (with_path paths path) all → with_path all path ≡ all
path-known paths path all among = with-among all path (among path (path-among paths path))

-- those of a piece
pub piece-others : (w : Word) (place : Place) (paths : List (List ℕ)) (piece : List ℕ) → AreAmong paths (with_piece_by w place paths piece)
piece-others word.Object place paths piece path there = objects-others place paths (values_of word.With (option_lines piece)) (head_of piece).value path there
piece-others word.MemFile place paths piece path there = others-among paths (path_of place (head_of piece).value) path there
piece-others word.Packet place paths piece path there = others-among paths (path_of place (capture_name (head_of piece).value)) path there
piece-others word.Section place paths piece path there = there
piece-others word.Entry place paths piece path there = there
piece-others word.With place paths piece path there = there
piece-others word.Stub place paths piece path there = there
piece-others word.Struct place paths piece path there = there
piece-others word.AsCompiled place paths piece path there = there
piece-others word.Other place paths piece path there = there

pub piece-known : (w : Word) (place : Place) (paths : List (List ℕ)) (piece : List ℕ) (all : List (List ℕ)) → AreAmong (with_piece_by w place paths piece) all
    → with_piece_by w place all piece ≡ all
piece-known word.Object place paths piece all among = objects-known place paths (values_of word.With (option_lines piece)) (head_of piece).value all among
piece-known word.MemFile place paths piece all among = path-known paths (path_of place (head_of piece).value) all among
piece-known word.Packet place paths piece all among = path-known paths (path_of place (capture_name (head_of piece).value)) all among
piece-known word.Section place paths piece all among = refl
piece-known word.Entry place paths piece all among = refl
piece-known word.With place paths piece all among = refl
piece-known word.Stub place paths piece all among = refl
piece-known word.Struct place paths piece all among = refl
piece-known word.AsCompiled place paths piece all among = refl
piece-known word.Other place paths piece all among = refl
