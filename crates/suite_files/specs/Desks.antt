-- Scaffolding: what was read and linked so far. No public contract cites this.
use Rattle.std.specs.Prelude.{ℕ, ◌≡◌, true, List, Option}
use Rattle.std.specs.List.{All}
use Rattle.suite_files.specs.Replaced.{IsPut, with_piece}
use Rattle.suite_files.specs.Shelves.{AreRead, is_among, paths_on}
use Rattle.suite_files.specs.declared.file.Desk.{Desk}
use Rattle.suite_files.specs.declared.file.Done.{Done}
use Rattle.suite_files.specs.declared.place.Place.{Place}

-- All of some paths are among others.
abbrev pub AreAmong : List (List ℕ) → List (List ℕ) → Type 0
AreAmong paths all = (path : List ℕ) → is_among path paths ≡ true → is_among path all ≡ true

-- A piece with what stands in its place. It names no file behind these ones, nor behind more.
pub record IsDone (bytes_at : List ℕ → Option (List ℕ)) (place : Place) (paths : List (List ℕ)) (done : Done) : Type 0 where
  pub is_put : IsPut bytes_at place done.piece.now done.put.items
  pub known : (all : List (List ℕ)) → AreAmong paths all → with_piece place all done.piece.now ≡ all

pub record IsDesk (bytes_at : List ℕ → Option (List ℕ)) (place : Place) (desk : Desk) : Type 0 where
  pub read : AreRead bytes_at desk.shelf.items
  pub done : All (IsDone bytes_at place (paths_on desk.shelf.items)) desk.done.items

-- One with files of these paths.
pub record HasPaths (bytes_at : List ℕ → Option (List ℕ)) (place : Place) (paths : List (List ℕ)) (desk : Desk) : Type 0 where
  pub is_desk : IsDesk bytes_at place desk
  pub are : paths_on desk.shelf.items ≡ paths
