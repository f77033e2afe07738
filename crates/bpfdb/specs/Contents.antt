-- What the files of a plan hold.
use Rattle.std.specs.Prelude.{ℕ, ◌-◌, List, [], get_or, length}
use Rattle.bpf_load.specs.Targets.{contents}
use Rattle.bpfdb.specs.declared.job.Bytes.{Bytes}
use Rattle.bpfdb.specs.declared.linux.Linux.{Linux}
use Rattle.bpfdb.specs.declared.linux.Linux.TheVariants.{Joined, Missing, Unneeded}

-- The bytes of FILE, of PATH, of the other file, and of the objects with functions; and what became of Linux's library.
pub record Contents : Type 0 where
  pub file : List ℕ
  pub context : List ℕ
  pub other : List ℕ
  pub with : List (List ℕ)
  pub linux : Linux

abbrev pub contents_in : Bytes → Contents
contents_in bytes = record {
  file = bytes.file.now;
  context = bytes.context.now;
  other = bytes.other.now;
  with = contents bytes.with.now;
  linux = bytes.linux;
}

-- The library is the last of the objects with functions, where it was joined by itself.
abbrev pub last_of : List (List ℕ) → List ℕ
last_of all = get_or all (length all - 1) []

abbrev pub library_by : Linux → List (List ℕ) → List ℕ
library_by Joined with = last_of with
library_by Missing with = []
library_by Unneeded with = []

abbrev pub library_in : Contents → List ℕ
library_in of = library_by of.linux of.with
