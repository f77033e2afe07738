-- How the items of a stream are read, one after another.
use Rattle.std.specs.Prelude.{◌≡◌, ◌<◌, ◌≤◌, ℕ, List, Option, Result, Some, IfOk, OnOk, OnErr}
use Rattle.std.specs.Io.KnownBytes.{Consumes}
use Rattle.counted_io.specs.Counted.{Tally, last_count, one_more}
use Rattle.bpf_remote.specs.Packets.{Buffer, IsItem, IsUnfinished}
use Rattle.bpf_remote.specs.declared.stream.Item.{Item}
use Rattle.bpf_remote.specs.declared.stream.Item.TheVariants.{End}

-- These bytes were read, and nothing failed.
pub record Reads {R : Type 0} (remaining : R → Option (List ℕ)) (old new : Tally R) (bytes : List ℕ) : Type 0 where
  pub taken : Consumes (remaining old.inner) (remaining new.inner) bytes
  pub same : new.failures ≡ old.failures

-- These bytes were read, and then a read failed.
pub record Fails {R : Type 0} (remaining : R → Option (List ℕ)) (old new : Tally R) (bytes : List ℕ) : Type 0 where
  pub taken : Consumes (remaining old.inner) (remaining new.inner) bytes
  pub fault : new.failures ≡ one_more old.failures

-- These bytes are all that was left.
abbrev pub IsAll : {R : Type 0} → (R → Option (List ℕ)) → Tally R → List ℕ → Type 0
IsAll remaining old bytes = (text : List ℕ) → remaining old.inner ≡ Some text → text ≡ bytes

-- Reads come closer to their last count.
abbrev pub IsNearer : {R : Type 0} → Tally R → Tally R → Type 0
IsNearer old new = (old.reads < new.reads) × (new.reads ≤ last_count)

-- The next item was read; a read failed where none was whole.
pub record ReadsItem {R E : Type 0} (remaining : R → Option (List ℕ)) (old new : Tally R) (buffer : Buffer) (result : Result Item E) : Type 0 where
  pub item : IfOk result (λ item. (bytes : List ℕ) × Reads remaining old new bytes × IsItem item bytes buffer
      × (item ≡ End → IsAll remaining old bytes))
  pub nearer : OnOk result (IsNearer old new)
  pub part : OnErr result ((bytes : List ℕ) × Fails remaining old new bytes × IsUnfinished bytes)
