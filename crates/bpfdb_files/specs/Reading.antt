-- What is read of a file, by its kind; why bytes of it aren't read, and what is counted of that. bpfdb's own choice.
use Rattle.std.specs.Prelude.{ℕ, ◌≡◌, ◌≤◌, ◌<◌, ◌+◌, ◌*◌, nat_le, if◌then◌else◌, List, length, take, Option, Some, None, ⊤}
use Rattle.std.specs.Io.KnownBytes.{Consumes, IsAtEnd}
use Rattle.counted_io.specs.Counted.{Tally, one_more}
use Rattle.bpf_isa.specs.Checker.{most_slots}
use Rattle.bpf_steps.specs.Platform.{context_limit}
use Rattle.bpfdb_files.specs.declared.kinds.FileKind.{FileKind}
use Rattle.bpfdb_files.specs.declared.kinds.FileKind.TheVariants.{Program, Any, Context, Source}
use Rattle.bpfdb_files.specs.declared.reading.FirstFault.{FirstFault}
use Rattle.bpfdb_files.specs.declared.reading.FirstFault.TheVariants.{Unread, Memory}

-- A read that failed is one failure; want of memory is none.
abbrev pub Counts : FirstFault → ℕ → ℕ → Type 0
Counts Unread old new = new ≡ one_more old
Counts Memory old new = new ≡ old

-- Known bytes lose the first ones, at most so many: fewer only where no more are left.
pub record TakesFirst (most : ℕ) (old new : Option (List ℕ)) (bytes : List ℕ) : Type 0 where
  pub taken : Consumes old new bytes
  pub bound : length bytes ≤ most
  pub end : length bytes < most → IsAtEnd new

-- Of a program and of a context a byte more than any has, so that a longer one is refused; of a source no more than this, and of what may be one a byte
-- more.
abbrev pub program_bytes : ℕ
program_bytes = 8 * most_slots + 1

abbrev pub context_bytes : ℕ
context_bytes = context_limit + 1

abbrev pub source_bytes : ℕ
source_bytes = 67108864

abbrev pub any_bytes : ℕ
any_bytes = source_bytes + 1

abbrev pub most_bytes : FileKind → ℕ
most_bytes Program = program_bytes
most_bytes Any = any_bytes
most_bytes Context = context_bytes
most_bytes Source = source_bytes

-- What is read of a file that has these bytes: nothing of a source that is too long.
abbrev pub content : FileKind → List ℕ → Option (List ℕ)
content Program bytes = Some (take program_bytes bytes)
content Any bytes = Some (take any_bytes bytes)
content Context bytes = Some (take context_bytes bytes)
content Source bytes = if nat_le (length bytes) source_bytes then Some bytes else None

-- What is read of a file whose bytes may not be known: then anything.
abbrev pub Gives : FileKind → Option (List ℕ) → Option (List ℕ) → Type 0
Gives kind known found = (bytes : List ℕ) → known ≡ Some bytes → content kind bytes ≡ found

-- What is taken from a reader: what is found, or a byte more than a source may have.
abbrev pub TakesFound : FileKind → Option (List ℕ) → Option (List ℕ) → Option (List ℕ) → Type 0
TakesFound kind old new (Some bytes) = Consumes old new bytes × (length bytes ≤ most_bytes kind)
TakesFound kind old new None = (bytes : List ℕ) × Consumes old new bytes × (length bytes ≡ source_bytes + 1)

-- A file was read as one of a kind.
pub record ReadsKind {R : Type 0} (remaining : R → Option (List ℕ)) (kind : FileKind) (old new : Tally R) (found : Option (List ℕ)) : Type 0 where
  pub gives : Gives kind (remaining old.inner) found
  pub takes : TakesFound kind (remaining old.inner) (remaining new.inner) found
  pub same : new.failures ≡ old.failures

-- A reader tells the bytes of a file, where they are known.
abbrev pub Tells : Option (List ℕ) → Option (List ℕ) → Type 0
Tells None remaining = ⊤
Tells (Some bytes) remaining = remaining ≡ Some bytes
