-- What bytes are read as, whatever they are. Of an entry's text it is the entry.
use Rattle.std.specs.Prelude.{◌≡◌, ℕ, ◌-◌, nat_eq, if◌then◌else◌, Option, Some, List, [], ◌∷◌, length, take, drop, slice_index}
use Rattle.byteorder.specs.Endian.{little_number}
use Rattle.bpf_entries.specs.declared.entry.Entry.{Entry}
use Rattle.bpf_entries.specs.declared.entry.Entry.TheVariants as entry
use Rattle.bpf_entries.specs.declared.status.Fault.TheVariants.{Access, Token, Depth}
use Rattle.bpf_entries.specs.declared.status.Status.{Status}
use Rattle.bpf_entries.specs.declared.status.Status.TheVariants.{Running, Exited, Faulted}
use Rattle.bpf_entries.specs.Fields.{FitsFields}
use Rattle.bpf_entries.specs.Frames.{frame_len}
use Rattle.bpf_entries.specs.Weights.{weight}

-- A slot, a number, a run of so many bytes at a place.
abbrev pub slot_at : ℕ → List ℕ → ℕ
slot_at i bytes = little_number 2 (drop i bytes)

abbrev pub number_at : ℕ → List ℕ → ℕ
number_at i bytes = little_number 8 (drop i bytes)

abbrev pub run_at : ℕ → ℕ → List ℕ → List ℕ
run_at i n bytes = take n (drop i bytes)

-- A status by its kind and number.
abbrev pub status_of : ℕ → ℕ → Status
status_of kind n =
    if nat_eq kind 0 then Running
    else if nat_eq kind 1 then Exited
    else if nat_eq kind 2 then Faulted (Access n)
    else if nat_eq kind 3 then Faulted (Token n)
    else Faulted Depth

-- An entry by its kind, how many bytes it has, and those.
abbrev pub entry_of : ℕ → ℕ → List ℕ → Entry
entry_of kind n b =
    if nat_eq kind 1 then entry.Register (slot_at 3 b) (slice_index b 5) (number_at 6 b)
    else if nat_eq kind 2 then entry.Jump (slot_at 3 b)
    else if nat_eq kind 3 then entry.Call (slot_at 3 b) (run_at 5 frame_len b)
    else if nat_eq kind 4 then entry.Return (slot_at 3 b) (number_at 5 b ∷ number_at 13 b ∷ number_at 21 b ∷ number_at 29 b ∷ [])
    else if nat_eq kind 5 then entry.Store (slot_at 3 b) (number_at 5 b) (run_at 14 (slice_index b 13) b)
    else if nat_eq kind 6 then entry.Fetch (slot_at 3 b) (slice_index b 5) (number_at 6 b) (number_at 14 b) (run_at 23 (slice_index b 22) b)
    else if nat_eq kind 7 then entry.Cell (slot_at 3 b) (number_at 5 b) (number_at 13 b) (run_at 21 (n - 23) b)
    else if nat_eq kind 8 then entry.Trace (slot_at 3 b) (number_at 5 b)
    else if nat_eq kind 9 then entry.End
    else if nat_eq kind 10 then entry.EditRegister (slice_index b 3) (number_at 4 b)
    else if nat_eq kind 11 then entry.EditBytes (number_at 3 b) (run_at 11 (n - 13) b)
    else entry.EditPc (slot_at 3 b) (status_of (slice_index b 5) (number_at 6 b))

-- Bytes are read as the entry of a kind where it fits its fields and weighs as many bytes as there are.
abbrev pub ReadsAs : ℕ → List ℕ → Option Entry → Type 0
ReadsAs kind bytes result =
    FitsFields (entry_of kind (length bytes) bytes) → length bytes ≡ weight (entry_of kind (length bytes) bytes)
    → result ≡ Some (entry_of kind (length bytes) bytes)
