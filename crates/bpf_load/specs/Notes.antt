-- What is said of an object's program beside what it does: fields that stay where they were compiled, and helpers and maps whose functions in a library
-- answer otherwise than the kernel's. bpfdb's own choice.
use Rattle.std.specs.Prelude.{ℕ, zero, suc, ◌≡◌, ◌⊎◌, ◌+◌, ◌-◌, ◌*◌, ◌/◌, ◌==◌, nat_lt, Bool, false, true, ◌||◌, if◌then◌else◌, List, [], ◌∷◌, Option, Some, None, codes, length}
use Rattle.bpf_isa.specs.Words.{u32_at}
use Rattle.bpf_join.specs.OwnRecords.{AreOwnRecords, IsOwnRecordFault}
use Rattle.bpf_link.specs.Begun.{BeginsNot, IsReachedCode}
use Rattle.bpf_link.specs.FieldRelocations.{AreLeft, IsFieldsFault}
use Rattle.bpf_link.specs.MapTypes.{name_from, named_bytes}
use Rattle.bpf_link.specs.Missing.{is_called}
use Rattle.bpf_link.specs.Objects.{opened}
use Rattle.bpf_link.specs.declared.fault.LinkFault.{LinkFault}
use Rattle.bpf_link.specs.declared.fault.LinkFault.TheVariants.{Memory}
use Rattle.bpf_load.specs.Faults.{IsOwnFault}
use Rattle.bpf_load.specs.Targets.{IsOwn}
use Rattle.bpf_load.specs.declared.fault.ObjectFault.{ObjectFault}
use Rattle.bpf_load.specs.declared.notes.Notes.{Notes}
use Rattle.bpf_load.specs.declared.target.Target.{Target}

-- The rows of a library: 64 bytes each, a number of 4 bytes, which is a helper's, or that of a kind of maps and 65,536, and what is said of it.
abbrev pub rows_of : List ℕ → List ℕ
rows_of library = named_bytes (opened library) (codes ".bpfdb.differs")

-- One of the first n maps is of a kind, by their records: the first 4 of 64 bytes are that.
abbrev pub has_kind : List ℕ → ℕ → ℕ → Bool
has_kind records kind zero = false
has_kind records kind (suc n) = (u32_at records (64 * n) == kind) || has_kind records kind n

-- The code calls the helper of a number, or a map is of its kind.
abbrev pub has_number : List ℕ → List ℕ → ℕ → Bool
has_number code records number =
    if nat_lt number 65536 then is_called code number else has_kind records (number - 65536) (length records / 64)

-- What a row says, where that is so; and whether it is of one of the first n.
abbrev pub is_told : Notes → ℕ → Bool
is_told notes k = has_number notes.code.items notes.records.items (u32_at notes.rows.now (64 * k))

abbrev pub difference : Notes → ℕ → Option (List ℕ)
difference notes k = if is_told notes k then Some (name_from notes.rows.now (64 * k + 4)) else None

abbrev pub is_among : Notes → ℕ → Bool
is_among notes zero = false
is_among notes (suc n) = is_told notes n || is_among notes n

abbrev pub differs : Notes → Bool
differs notes = is_among notes (length notes.rows.now / 64)

-- How many fields stay as they were compiled, the code that is reached, and the maps; nothing where that isn't known.
abbrev pub IsFieldCount : List ℕ → List ℕ → Bool → ℕ → Type 0
IsFieldCount own section as_compiled fields = AreLeft own section as_compiled fields
    ⊎ ((fields ≡ 0) × (fault : LinkFault) × IsFieldsFault own section as_compiled fault)

abbrev pub IsCode : List ℕ → List ℕ → List ℕ → List ℕ → Type 0
IsCode own section entry code = IsReachedCode own section entry code
    ⊎ ((code ≡ []) × (fault : LinkFault) × ((fault ≡ Memory) ⊎ BeginsNot own section entry fault))

-- The records of its maps.
abbrev pub AreRecords : List ℕ → List ℕ → List ℕ → Type 0
AreRecords own section records = AreOwnRecords own section records
    ⊎ ((records ≡ []) × (fault : LinkFault) × IsOwnRecordFault own section fault)

-- Code and maps are looked at where there are rows.
abbrev pub AreRecordsFor : List ℕ → List ℕ → List ℕ → List ℕ → Type 0
AreRecordsFor [] own section records = records ≡ []
AreRecordsFor (b ∷ rows) own section records = AreRecords own section records

abbrev pub IsCodeFor : List ℕ → List ℕ → List ℕ → List ℕ → List ℕ → Type 0
IsCodeFor [] own section entry code = code ≡ []
IsCodeFor (b ∷ rows) own section entry code = IsCode own section entry code

pub data AreNotes (target : Target) (file library : List ℕ) (notes : Notes) : Type 0 where
  Known : (own : List ℕ) → IsOwn target file own → IsFieldCount own target.section.now target.as_compiled notes.fields
      → IsCodeFor (rows_of library) own target.section.now target.entry.now notes.code.items
      → AreRecordsFor (rows_of library) own target.section.now notes.records.items → notes.rows.now ≡ rows_of library
      → AreNotes target file library notes
  Unknown : (it : ObjectFault) → IsOwnFault target file it → notes.fields ≡ 0 → notes.code.items ≡ [] → notes.records.items ≡ [] → notes.rows.now ≡ rows_of library
      → AreNotes target file library notes
