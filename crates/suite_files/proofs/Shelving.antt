-- Files that were read, and one more.
use Rattle.std.proofs.Common.{◌≡◌, ◌∙◌, ◌<◌, ◌++◌, [], ◌∷◌, ℕ, suc, zero, List, ap, arith, length-append, subst, sym}
use Rattle.std.proofs.lemmas.List.{map-append}
use Rattle.std.proofs.lemmas.List.Elements.{All-append, All-cons, All-nil}
use Rattle.std.specs.Prelude.{◌||◌, Option, Some, get_or, length, true}
use Rattle.std.specs.Str.{bytes_eq}
use Rattle.bpfdb_files.specs.Reading.{Gives}
use Rattle.bpfdb_files.specs.declared.kinds.FileKind.TheVariants.{Source}
use Rattle.suite_files.proofs.Naming.{bytes_eq-same, or-true, with-among, with-new}
use Rattle.suite_files.specs.Shelves.{AreRead, IsFile, IsRead, IsShelf, IsShelved, Lacks, is_allowed, is_among, most_files, path_of, paths_on, with_path}
use Rattle.suite_files.specs.declared.place.Place.{Place}
use Rattle.suite_files.specs.declared.shelf.Shelved.{Shelved}
use Rattle.input_texts.specs.Captures.{AreStarts}

-- the one at a place whose path is that of a name is its file
pub shelved-at : (bytes_at : List ℕ → Option (List ℕ)) (place : Place) (name : List ℕ) (shelf : List Shelved) (at : ℕ)
    → AreRead bytes_at shelf → is_allowed place name ≡ true → at < length shelf
    → ((d : Shelved) → (get_or shelf at d).path.items ≡ path_of place name) → IsShelved bytes_at place name shelf at
shelved-at bytes_at place name shelf at read allowed inside same = record {
  inside = inside;
  file = λ d. record {
    allowed = allowed;
    gives = subst (λ path. Gives Source (bytes_at path) (Some (get_or shelf at d).bytes.items)) (same d) (read.each at d inside).gives;
  };
}

-- and so is what was taken from that place
pub file-at : (bytes_at : List ℕ → Option (List ℕ)) (place : Place) (name : List ℕ) (shelf : List Shelved) (at : ℕ) (one : Shelved)
    → IsShelved bytes_at place name shelf at → one ≡ get_or shelf at one → IsFile bytes_at place name one.bytes.items
file-at bytes_at place name shelf at one shelved is =
    subst (λ (s : Shelved). IsFile bytes_at place name s.bytes.items) (sym is) (shelved.file one)

pub file-in : (bytes_at : List ℕ → Option (List ℕ)) (place : Place) (name : List ℕ) (shelf : List Shelved) (at : ℕ) (one : Shelved) (bytes : List ℕ)
    → IsShelved bytes_at place name shelf at → one ≡ get_or shelf at one → bytes ≡ one.bytes.items → IsFile bytes_at place name bytes
file-in bytes_at place name shelf at one bytes shelved is same =
    subst (λ (b : List ℕ). IsFile bytes_at place name b) (sym same) (file-at bytes_at place name shelf at one shelved is)

-- its packets begin where that says
pub starts-at : (bytes_at : List ℕ → Option (List ℕ)) (shelf : List Shelved) (at : ℕ) (one : Shelved) → AreRead bytes_at shelf
    → at < length shelf → one ≡ get_or shelf at one → AreStarts one.bytes.items one.packets.items
starts-at bytes_at shelf at one read inside is =
    subst (λ (s : Shelved). AreStarts s.bytes.items s.packets.items) (sym is) (read.each at one inside).starts

-- the one at a place has its path among theirs
pub path-at : (shelf : List Shelved) (path : List ℕ) (at : ℕ) → at < length shelf → ((d : Shelved) → (get_or shelf at d).path.items ≡ path)
    → is_among path (paths_on shelf) ≡ true
path-at [] path at inside same = absurd (omega arith)
path-at (one ∷ more) path zero inside same =
    ap (λ b. b || is_among path (paths_on more)) (ap (λ p. bytes_eq p path) (same one) ∙ bytes_eq-same path)
path-at (one ∷ more) path (suc at) inside same =
    ap (λ b. bytes_eq one.path.items path || b) (path-at more path at (omega arith) same) ∙ or-true (bytes_eq one.path.items path)

pub shelf-known : (bytes_at : List ℕ → Option (List ℕ)) (shelf : List Shelved) (path : List ℕ) (at : ℕ) → AreRead bytes_at shelf → at < length shelf
    → ((d : Shelved) → (get_or shelf at d).path.items ≡ path) → IsShelf bytes_at (with_path (paths_on shelf) path) shelf
shelf-known bytes_at shelf path at read inside same = record {
  read = read;
  are = sym (with-among (paths_on shelf) path (path-at shelf path at inside same));
}

-- another one stands behind them
pub shelf-and-one : (bytes_at : List ℕ → Option (List ℕ)) (shelf all : List Shelved) (one : Shelved) (path : List ℕ) → Lacks bytes_at shelf path
    → length shelf < most_files → IsRead bytes_at one → one.path.items ≡ path → all ≡ shelf ++ one ∷ []
    → IsShelf bytes_at (with_path (paths_on shelf) path) all
shelf-and-one bytes_at shelf all one path lacks few is same behind =
    rw (behind, with-new (paths_on shelf) path lacks.none) (record {
      read = record {
        each = All-append (IsRead bytes_at) shelf (one ∷ []) lacks.read.each (All-cons (IsRead bytes_at) one [] is (All-nil (IsRead bytes_at)));
        few = omega (arith, length-append shelf (one ∷ []));
      };
      are = map-append (λ (file : Shelved). file.path.items) shelf (one ∷ []) ∙ ap (λ (p : List ℕ). paths_on shelf ++ p ∷ []) same;
    })
