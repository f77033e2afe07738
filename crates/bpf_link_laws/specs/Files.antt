-- Files, and what one must be whose sections are found by their names.
use Rattle.std.specs.Prelude.{◌≡◌, ◌<◌, ◌≤◌, ℕ, ◌+◌, ◌-◌, List, length, slice_index}
use Rattle.bpf_link.specs.Objects.{Elf, section_at}
use Rattle.bpf_link.specs.declared.plan.Plan.{Plan}
use Rattle.bpf_link.specs.declared.sections.Found.TheVariants.{Only}
use Rattle.bpf_join.specs.Tables.{names_index}

-- A file that fits in memory: bytes, and fewer of them than 2^64.
pub record IsFile (bytes : List ℕ) : Type 0 where
  pub each : (i : ℕ) → slice_index bytes i < 256
  pub short : length bytes < 18446744073709551616

-- The names of an object's sections stand in a table of strings (System V gABI, chapter 4): SHT_STRTAB, 3, in the file, and it ends with a zero. Each section's
-- name begins in it.
pub record HasNames (object : Elf) : Type 0 where
  pub kind : (section_at object (names_index object)).kind ≡ 3
  pub inside : (section_at object (names_index object)).offset + (section_at object (names_index object)).size ≤ length object.bytes
  pub some : 0 < (section_at object (names_index object)).size
  pub ends : slice_index object.bytes ((section_at object (names_index object)).offset + (section_at object (names_index object)).size - 1) ≡ 0
  pub begin : (i : ℕ) → i < length object.sections → (section_at object i).name < (section_at object (names_index object)).size

-- So do those of its symbols, in the table to which the section of symbols links, if there is one.
abbrev pub HasSymbolNames : Plan → Type 0
HasSymbolNames plan =
    (table : ℕ) → plan.table ≡ Only table → (section_at plan.object table).link < length plan.object.sections
    → (section_at plan.object (section_at plan.object table).link).kind ≡ 3

-- A text without zeros.
abbrev pub IsText : List ℕ → Type 0
IsText name = (i : ℕ) → i < length name → 0 < slice_index name i
