-- The files that sections name, and where they lie.
use Rattle.std.specs.Prelude.{ℕ, zero, suc, ◌≡◌, ◌≤◌, ◌<◌, Bool, ◌||◌, ◌++◌, if◌then◌else◌, true, false, List, [], ◌∷◌, Option, Some, get_or, length, map, ⊤}
use Rattle.std.specs.List.{All, list_any}
use Rattle.std.specs.Str.{bytes_eq}
use Rattle.bpfdb_files.specs.Reading.{Gives}
use Rattle.bpfdb_files.specs.declared.kinds.FileKind.TheVariants.{Source}
use Rattle.suite_files.specs.declared.fault.NamedFault.TheVariants.{Malformed, Outside, Unread, TooMuch}
use Rattle.suite_files.specs.declared.place.Place.{Place}
use Rattle.suite_files.specs.declared.shelf.NameFault.{NameFault}
use Rattle.suite_files.specs.declared.shelf.NameFault.TheVariants.{Named, Memory}
use Rattle.suite_files.specs.declared.shelf.Shelved.{Shelved}
use Rattle.input_texts.specs.Captures.{AreStarts}
use Rattle.input_texts.specs.Paths.{is_absolute, is_below}

-- Files lie in the folder of the tests or below, unless they may lie anywhere.
abbrev pub is_allowed : Place → List ℕ → Bool
is_allowed place name = place.anywhere || is_below name

abbrev pub path_of : Place → List ℕ → List ℕ
path_of place name = if is_absolute name then name else place.folder.now ++ name

-- The file of a name.
pub record IsFile (bytes_at : List ℕ → Option (List ℕ)) (place : Place) (name bytes : List ℕ) : Type 0 where
  pub allowed : is_allowed place name ≡ true
  pub gives : Gives Source (bytes_at (path_of place name)) (Some bytes)

-- The most files that a file of tests may name.
abbrev pub most_files : ℕ
most_files = 4096

-- The paths of files that were read, each once; with that of one more, if it isn't among them; and with those of the first n of some names.
abbrev pub is_among : List ℕ → List (List ℕ) → Bool
is_among path paths = list_any (λ p. bytes_eq p path) paths

abbrev pub with_path : List (List ℕ) → List ℕ → List (List ℕ)
with_path paths path = if is_among path paths then paths else paths ++ path ∷ []

abbrev pub with_names : Place → List (List ℕ) → List (List ℕ) → ℕ → List (List ℕ)
with_names place paths names zero = paths
with_names place paths names (suc n) = with_path (with_names place paths names n) (path_of place (get_or names n []))

-- Why it isn't there, behind files of these paths: it has no name, or isn't allowed, or it is none of them and either one too many or can't be read; or
-- memory ran out.
abbrev pub IsReadFault : List (List ℕ) → List ℕ → NameFault → Type 0
IsReadFault paths path (Named Unread) = (is_among path paths ≡ false) × (length paths < most_files)
IsReadFault paths path (Named TooMuch) = (is_among path paths ≡ false) × (most_files ≤ length paths)
IsReadFault paths path (Named fault) = ⊥
IsReadFault paths path Memory = ⊤

abbrev pub IsNameFault : Place → List (List ℕ) → List ℕ → NameFault → Type 0
IsNameFault place paths name (Named Malformed) = name ≡ []
IsNameFault place paths name (Named Outside) = is_allowed place name ≡ false
IsNameFault place paths name (Named fault) = IsReadFault paths (path_of place name) (Named fault) × (is_allowed place name ≡ true)
IsNameFault place paths name Memory = ⊤

-- Why the bytes of a file aren't there.
abbrev pub IsUnread : NameFault → Type 0
IsUnread (Named Unread) = ⊤
IsUnread (Named fault) = ⊥
IsUnread Memory = ⊤

-- A file that was read, with its path, and where its packets begin.
pub record IsRead (bytes_at : List ℕ → Option (List ℕ)) (file : Shelved) : Type 0 where
  pub gives : Gives Source (bytes_at file.path.items) (Some file.bytes.items)
  pub starts : AreStarts file.bytes.items file.packets.items

pub record AreRead (bytes_at : List ℕ → Option (List ℕ)) (shelf : List Shelved) : Type 0 where
  pub each : All (IsRead bytes_at) shelf
  pub few : length shelf ≤ most_files

-- They have these paths.
abbrev pub paths_on : List Shelved → List (List ℕ)
paths_on shelf = map (λ file. file.path.items) shelf

pub record IsShelf (bytes_at : List ℕ → Option (List ℕ)) (paths : List (List ℕ)) (shelf : List Shelved) : Type 0 where
  pub read : AreRead bytes_at shelf
  pub are : paths_on shelf ≡ paths

-- None of them has this path.
pub record Lacks (bytes_at : List ℕ → Option (List ℕ)) (shelf : List Shelved) (path : List ℕ) : Type 0 where
  pub read : AreRead bytes_at shelf
  pub none : is_among path (paths_on shelf) ≡ false

-- The one at a place has this path.
pub record HoldsAt (bytes_at : List ℕ → Option (List ℕ)) (shelf : List Shelved) (path : List ℕ) (at : ℕ) : Type 0 where
  pub inside : at < length shelf
  pub gives : (d : Shelved) → Gives Source (bytes_at path) (Some (get_or shelf at d).bytes.items)

-- It is the file of a name.
pub record IsShelved (bytes_at : List ℕ → Option (List ℕ)) (place : Place) (name : List ℕ) (shelf : List Shelved) (at : ℕ) : Type 0 where
  pub inside : at < length shelf
  pub file : (d : Shelved) → IsFile bytes_at place name (get_or shelf at d).bytes.items
